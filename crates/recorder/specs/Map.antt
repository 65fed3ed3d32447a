-- The address map, and the pages that are read from it.
use Rattle.std.specs.Prelude.{ℕ, ◌-◌, ◌%◌, Bool, cond, ◌||◌, List, map, slice_index}
use Rattle.std.specs.List.{range_with_len}
use Rattle.counter.specs.Counting.{bytes_of}
use Rattle.record.specs.Map.{record_at}
use Rattle.registers.specs.Reading.{within, shown}
use Rattle.recorder.specs.Contents.{Contents, in_mission}

-- The record stands at 15h to 1Ch, 220h to 27Fh, 800h to 8FFh and 1000h to 17FFh.
abbrev pub in_record : ℕ → Bool
in_record address = within 0x15 0x1C address || within 0x220 0x27F address || within 0x800 0x8FF address || within 0x1000 0x17FF address

-- The byte at an address: Total at 1Dh to 1Fh, low byte first, the record, and else the registers.
abbrev pub map_at : Contents → ℕ → ℕ
map_at c address =
    cond (within 0x1D 0x1F address) (slice_index (bytes_of c.total) (address - 0x1D))
    (cond (in_record address) (record_at c.recorded address) (shown c.registers (in_mission c) address))

-- How many bytes there are from an address to the end of its page of 32.
abbrev pub page_rest : ℕ → ℕ
page_rest address = 32 - address % 32

-- The bytes from an address to the end of its page.
abbrev pub page_from : Contents → ℕ → List ℕ
page_from c address = map (map_at c) (range_with_len address (page_rest address))
