-- What a call answers: what it says where it was done, and else why it was refused.
use Rattle.std.specs.Prelude.{ℕ, Bool, Ok, Err, Result}
use Rattle.refusal.specs.declared.refusal.Refusal.{Refusal}
use Rattle.model.specs.declared.calls.Success.{Success}
use Rattle.model.specs.declared.calls.Success.TheVariants.{Done, Pressed, Collected}

abbrev pub Answer : Type 0
Answer = Result Success Refusal

-- the answer where there is nothing to say
abbrev pub done : Result (Unit {0}) Refusal → Answer
done (Ok u) = Ok Done
done (Err refusal) = Err refusal

-- the answer of a press: whether it started a mission
abbrev pub pressed : Result Bool Refusal → Answer
pressed (Ok started) = Ok (Pressed started)
pressed (Err refusal) = Err refusal

-- the answer of a collection: how many wire bytes there are
abbrev pub collected : Result ℕ Refusal → Answer
collected (Ok n) = Ok (Collected n)
collected (Err refusal) = Err refusal
