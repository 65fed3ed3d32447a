-- Where both ways of a test stand for the models of both ways, the choice stands for the chosen model.
use Rattle.std.proofs.Common.{◌≡◌, Bool, true, false, cond, refl}
use Rattle.std.proofs.lemmas.Bool.{cond_both}
use Rattle.recorder.specs.State.{State}
use Rattle.model.specs.Model.{Model}
use Rattle.model.specs.Stand.{stand}

pub chosen : {A : Type 0} (held : A → State) (t : Bool) (x y : A) (m n : Model)
    → (t ≡ true → held x ≡ stand m) → (t ≡ false → held y ≡ stand n) → held (cond t x y) ≡ stand (cond t m n)
chosen held true x y m n left right = left refl
chosen held false x y m n left right = right refl

-- What holds of both ways holds of the choice.
pub either : {A : Type 0} (P : A → Type 0) (t : Bool) (x y : A) → P x → P y → P (cond t x y)
either P t x y p q = cond_both t x y P (λ _. p) (λ _. q)

-- What both ways have in common, the choice has.
pub same_chosen : {A : Type 0} (f : Model → A) (t : Bool) (m n : Model) (x : A) → f m ≡ x → f n ≡ x → f (cond t m n) ≡ x
same_chosen f true m n x p q = p
same_chosen f false m n x p q = q
