-- Worked runs that end in a refusal, and how it is reported.
use Rattle.std.specs.Prelude.{◌≡◌, List, [], ◌∷◌, Ok, Err}
use Rattle.line.specs.Wires.{plain, framed}
use Rattle.model.specs.declared.calls.Call.{Call}
use Rattle.model.specs.declared.calls.Success.TheVariants.{Done, Collected}
use Rattle.refusal.specs.Refusals.{report_of, reported}
use Rattle.refusal.specs.declared.refusal.Refusal.TheVariants.{BadTemperature, ClearDisabled}
use Rattle.refusal.specs.declared.report.Layer.TheVariants.{Command, Sample}
use Rattle.figures.specs.Runs.{answers, byte, collect, second}

-- A second with temperature code 250 is taken. One with code 251 is refused: number 13, by the layer of samples, with the code.
abbrev pub TooHot : Type 0
TooHot =
    (answers plain (second 250 ∷ []) ≡ Ok Done ∷ [])
    × (answers plain (second 251 ∷ []) ≡ Err (BadTemperature 251) ∷ [])
    × (report_of (BadTemperature 251) ≡ reported 13 Sample 251)

-- Control 1, at 0Eh, is written 40h, which enables a clear; and then comes the clear, A5h.
abbrev pub cleared_at_once : List Call
cleared_at_once = byte 0x22 ∷ byte 0x0E ∷ byte 0x40 ∷ byte 0xA5 ∷ []

-- The same with a read of the first page, and its collection, in between.
abbrev pub cleared_after_read : List Call
cleared_after_read =
    byte 0x22 ∷ byte 0x0E ∷ byte 0x40 ∷ byte 0x33 ∷ byte 0x00 ∷ byte 0x00 ∷ collect ∷ byte 0xA5 ∷ []

-- The clear is done at once. After the read it is refused, number 10, since the read used the enable up. So it is on the
-- 3-wire line, where the reply has 32 wire bytes, and on the asynchronous line, where it has 34.
abbrev pub ReadBetween : Type 0
ReadBetween =
    (answers plain cleared_at_once ≡ Ok Done ∷ Ok Done ∷ Ok Done ∷ Ok Done ∷ [])
    × (answers framed cleared_at_once ≡ Ok Done ∷ Ok Done ∷ Ok Done ∷ Ok Done ∷ [])
    × (answers plain cleared_after_read ≡ Ok Done ∷ Ok Done ∷ Ok Done ∷ Ok Done ∷ Ok Done ∷ Ok Done ∷ Ok (Collected 32) ∷ Err ClearDisabled ∷ [])
    × (answers framed cleared_after_read ≡ Ok Done ∷ Ok Done ∷ Ok Done ∷ Ok Done ∷ Ok Done ∷ Ok Done ∷ Ok (Collected 34) ∷ Err ClearDisabled ∷ [])
    × (report_of ClearDisabled ≡ reported 10 Command 0xA5)

abbrev pub Refusals : Type 0
Refusals = TooHot × ReadBetween
