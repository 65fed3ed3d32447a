-- The table of refusals: the number, the layer and the place by which each cause is reported.
use Rattle.std.specs.Prelude.{ℕ}
use Rattle.refusal.specs.declared.refusal.Refusal.{Refusal}
use Rattle.refusal.specs.declared.refusal.Refusal.TheVariants.{MemoryLength, ReplyWaits, UnknownCommand, NoRule, BadValue, NotCleared, NoChannel, OutsideMap, InMission, ClearDisabled, NothingWaits, TooShort, BadTemperature, LineFull, BadWire, BadSection}
use Rattle.refusal.specs.declared.refusal.Shortage.{Shortage}
use Rattle.refusal.specs.declared.refusal.Shortage.TheVariants as shortage
use Rattle.refusal.specs.declared.report.Layer.{Layer}
use Rattle.refusal.specs.declared.report.Layer.TheVariants.{Memory, Line, Command, Register, Sample, Sheet}
use Rattle.refusal.specs.declared.report.Report.{Report}

abbrev pub reported : ℕ → Layer → ℕ → Report
reported number layer place = record { number = number; layer = layer; place = place }

-- a buffer that is too short is reported by the layer that was lent it
abbrev pub layer_of : Shortage → Layer
layer_of shortage.Line = Line
layer_of shortage.Sheet = Sheet

abbrev pub report_of : Refusal → Report
report_of MemoryLength = reported 1 Memory 0
report_of ReplyWaits = reported 2 Line 0
report_of (UnknownCommand byte) = reported 3 Command byte
report_of (NoRule address) = reported 4 Register address
report_of (BadValue address) = reported 5 Register address
report_of NotCleared = reported 6 Register 0x0D
report_of NoChannel = reported 7 Register 0x0D
report_of (OutsideMap address) = reported 8 Command address
report_of InMission = reported 9 Command 0x55
report_of ClearDisabled = reported 10 Command 0xA5
report_of NothingWaits = reported 11 Line 0
report_of (TooShort short wanted) = reported 12 (layer_of short) wanted
report_of (BadTemperature code) = reported 13 Sample code
report_of LineFull = reported 14 Line 0
report_of BadWire = reported 15 Line 0
report_of (BadSection offset) = reported 16 Sheet offset
