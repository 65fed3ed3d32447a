-- What a table holds.
use Rattle.alarm.specs.declared.table.AlarmTable.{AlarmTable}
use Rattle.alarm.specs.Held.{Held}

-- The fields of a table, without its invariants.
abbrev pub held_in : AlarmTable → Held
held_in t = record { records = t.records; used = t.used; growing = t.growing }
