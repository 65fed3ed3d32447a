use Rattle.std.proofs.Common.{◌≡◌, ◌∙◌, rules}
use Rattle.std.specs.List.{fold}
use Rattle.crc16.specs.Division.{divided, low_bits, crc_of}
use Rattle.crc16.proofs.Residue.{byte_by_byte, residue}
use Rattle.crc16.proofs.crc16.Goals as goal

pub returns : goal.returns
returns c =
    let xs = c.args.message.now in
    let run : c.fold.result ≡ fold (λ crc byte. divided crc (low_bits 8 byte)) 0 xs = search rules in
    let value : c.fold.result ≡ crc_of xs = run ∙ byte_by_byte 0 xs in
    record { value = value; residue = rw value (residue xs) }
