-- The call that a letter and the bytes behind it name.
use Rattle.std.proofs.Common.{◌≡◌, ℕ, cond, eqb, List, [], ◌∷◌, get_or, Some, None, Option, sym, refl, ap, ◌∙◌, ap₂, arith}
use Rattle.hex_text.specs.Text.{spaced}
use Rattle.mission.specs.PerChannel.{Codes}
use Rattle.script.specs.declared.call.Call.{Call}
use Rattle.script.specs.declared.call.Call.TheVariants.{Byte, Gap, Second, Press, Collect}
use Rattle.script.specs.Lines.{letter_of, bytes_of, Says, Read}
use Rattle.hex_text.specs.Parsing.{Begins}
use Rattle.script.specs.Parsing.{ended}
use Rattle.script.proofs.Bytes.{spaced_once}

abbrev codes_of : ℕ → ℕ → ℕ → ℕ → Codes
codes_of temperature one two three = record { temperature = temperature; one = one; two = two; three = three }

-- A line begins with the letter of its call.
letter_is : {letter : ℕ} {text : List ℕ} (call : Call) → Says (letter ∷ text) call → letter ≡ letter_of call
letter_is call says = ap (λ (line : List ℕ). get_or line 0 0) says.written

-- A line with four codes and more behind them is that of no call.
second_over : {text p q r rest : List ℕ} {t a b c x : ℕ} → Begins text t p → Begins p a q → Begins q b r → Begins r c (x ∷ rest) → (call : Call) → Says (83 ∷ text) call → ⊥
second_over t a b c (Byte byte) says = omega (arith, letter_is (Byte byte) says)
second_over t a b c Gap says = omega (arith, letter_is Gap says)
second_over t a b c (Second codes) says = cc (t.written, a.written, b.written, c.written, says.written)
second_over t a b c Press says = omega (arith, letter_is Press says)
second_over t a b c Collect says = omega (arith, letter_is Collect says)

-- A line with four codes is that of a second, if nothing follows.
pub second_read : {text p q r : List ℕ} (rest : List ℕ) {t a b c : ℕ} → Begins text t p → Begins p a q → Begins q b r → Begins r c rest
    → Read (83 ∷ text) (ended rest (Second (codes_of t a b c)))
second_read [] t a b c =
    record { narrow = (t.narrow, (a.narrow, (b.narrow, (c.narrow, tt)))); written = cc (t.written, a.written, b.written, c.written) }
second_read (x ∷ rest) t a b c = second_over t a b c

-- The call with this letter and these bytes.
made_of : ℕ → List ℕ → Call
made_of letter bytes =
    cond (eqb letter 66) (Byte (get_or bytes 0 0))
    (cond (eqb letter 71) Gap
    (cond (eqb letter 83) (Second (codes_of (get_or bytes 0 0) (get_or bytes 1 0) (get_or bytes 2 0) (get_or bytes 3 0))) (cond (eqb letter 80) Press Collect)))

made_back : (call : Call) → made_of (letter_of call) (bytes_of call) ≡ call
unfolding made_of
made_back (Byte byte) = refl
made_back Gap = refl
made_back (Second codes) = refl
made_back Press = refl
made_back Collect = refl

-- A line names one call only.
line_once : (line : List ℕ) (c d : Call) → Says line c → Says line d → c ≡ d
line_once line c d p q =
    let letters : letter_of c ≡ letter_of d = cc (p.written, q.written) in
    let texts : spaced (bytes_of c) ≡ spaced (bytes_of d) = cc (p.written, q.written) in
    sym (made_back c) ∙ ap₂ made_of letters (spaced_once (bytes_of c) (bytes_of d) p.narrow q.narrow texts) ∙ made_back d

pub read_once : (line : List ℕ) (r : Option Call) → Read line r → (call : Call) → Says line call → r ≡ Some call
read_once line None none call says = absurd (none call says)
read_once line (Some c) says' call says = ap Some (line_once line c call says' says)
