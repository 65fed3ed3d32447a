-- Calls that are lent other memories than the recorder's own.
use Rattle.std.proofs.Common.{◌≡◌, ℕ, ◌-◌, true, false, List, ◌++◌, length, take, Err, ap, ◌∙◌, rules}
use borrow.Rule.Slice.PartMut.{post_of}
use Rattle.std.proofs.lemmas.List.{take-append-drop}
use Rattle.std.proofs.lemmas.Bool.{cond-false}
use Rattle.memory.specs.declared.event.JournalEntry.{JournalEntry}
use Rattle.refusal.specs.declared.refusal.Refusal.TheVariants.{MemoryLength}
use Rattle.recorder.specs.Contents.{whole_memories}
use Rattle.recorder.specs.State.{State}
use Rattle.model.specs.Answers.{done, pressed}
use Rattle.model.specs.declared.calls.Action.{Action}
use Rattle.model.specs.declared.calls.Action.TheVariants.{Byte, Second, Press}
use Rattle.model.specs.Fits.{lendable}
use Rattle.memory.specs.Serving.{serves}
use Rattle.model.specs.Steps.{act_answer}

-- memories of the lengths that a call says, where these cannot serve
module _ (xs : List ℕ) (ys : List JournalEntry) (n k : ℕ) (lent : lendable (length xs) (length ys) n k ≡ true) (other : serves n k ≡ false) where
  pub cannot_serve : serves (length (take (n - 0) xs)) (length (take (k - 0) ys)) ≡ false
  cannot_serve = search rules

-- a front that comes back as it was leaves the whole as it was
pub put_back : {X : Type 0} (n : ℕ) (xs ys : List X) → ys ≡ take (n - 0) xs → ys ++ post_of 0 (n - 0) xs ≡ xs
put_back n xs ys e = ap (λ zs. zs ++ post_of 0 (n - 0) xs) e ∙ take-append-drop (n - 0) xs

-- each action is refused where the memories cannot serve
pub short_refused : (s : State) (action : Action) → whole_memories s.contents ≡ false → act_answer s action ≡ Err MemoryLength
short_refused s (Byte byte) short = ap done (cond-false (whole_memories s.contents) _ _ short)
short_refused s (Second codes) short = ap done (cond-false (whole_memories s.contents) _ _ short)
short_refused s Press short = ap pressed (cond-false (whole_memories s.contents) _ _ short)
