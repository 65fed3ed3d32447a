-- Where the contents of a record stand in the address map.
use Rattle.std.specs.Prelude.{ℕ, ◌-◌, ◌/◌, ◌%◌, cond, List, [], ◌∷◌, ◌++◌, nat_lt, slice_index, slice_index_or}
use Rattle.alarm.specs.Held.{Held}
use Rattle.alarm.specs.Pieces.{blank}
use Rattle.alarm.specs.declared.record.AlarmRecord.{AlarmRecord}
use Rattle.counter.specs.Counting.{bytes_of}
use Rattle.record.specs.Contents.{Contents}

-- An alarm record is four bytes: its stamp, low byte first, and then its length.
abbrev pub alarm_bytes : AlarmRecord → List ℕ
alarm_bytes r = bytes_of r.stamp ++ r.length ∷ []

-- Byte i of the alarm records of a side.
abbrev pub alarm_byte : Held → ℕ → ℕ
alarm_byte h i = slice_index (alarm_bytes (slice_index_or h.records (i / 4) blank)) (i % 4)

-- A bin is two bytes, low byte first.
abbrev pub bin_bytes : ℕ → List ℕ
bin_bytes n = n % 256 ∷ n / 256 ∷ []

-- Byte i of bins.
abbrev pub bin_byte : List ℕ → ℕ → ℕ
bin_byte bins i = slice_index (bin_bytes (slice_index bins (i / 2))) (i % 2)

-- The byte of the record at an address, and 0 where the record has none:
-- the start stamp at 15h to 19h, and Current at 1Ah to 1Ch, low byte first;
-- the alarm records of temperature low at 220h to 237h, temperature high at 238h to 24Fh, channel 1 low at 250h to 267h and
-- channel 1 high at 268h to 27Fh;
-- the bins of temperature at 800h to 87Dh, and those of channel 1 at 880h to 8FFh;
-- the log at 1000h to 17FFh, where a shorter memory reads as 0 past its end.
abbrev pub record_at : Contents → ℕ → ℕ
record_at k a =
    cond (nat_lt a 0x15) 0
    (cond (nat_lt a 0x1A) (slice_index k.stamp (a - 0x15))
    (cond (nat_lt a 0x1D) (slice_index (bytes_of k.current) (a - 0x1A))
    (cond (nat_lt a 0x220) 0
    (cond (nat_lt a 0x238) (alarm_byte k.temperature_low (a - 0x220))
    (cond (nat_lt a 0x250) (alarm_byte k.temperature_high (a - 0x238))
    (cond (nat_lt a 0x268) (alarm_byte k.one_low (a - 0x250))
    (cond (nat_lt a 0x280) (alarm_byte k.one_high (a - 0x268))
    (cond (nat_lt a 0x800) 0
    (cond (nat_lt a 0x87E) (bin_byte k.temperatures (a - 0x800))
    (cond (nat_lt a 0x880) 0
    (cond (nat_lt a 0x900) (bin_byte k.voltages (a - 0x880))
    (cond (nat_lt a 0x1000) 0
    (cond (nat_lt a 0x1800) (slice_index k.memory (a - 0x1000)) 0)))))))))))))
