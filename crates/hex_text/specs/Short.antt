-- What a short list of bytes holds.
use Rattle.std.specs.Prelude.{ℕ, List}
use Rattle.hex_text.specs.declared.short.ShortBytes.{ShortBytes}

abbrev pub held : ShortBytes → List ℕ
held s = s.bytes.items
