-- What the programs write on some inputs.
use mathlib.Core.Path.{refl}
use Rattle.varint.specs.Varint.{groups, read, encode, bytes}
use Rattle.text.specs.Decimal.{ascii, digit, digits, decimal}
use Rattle.text_lines.specs.Lines.{fault_line}
use Rattle.notation.specs.Outcomes.{before}
use Rattle.notation.specs.Tokens.{separator, ends, comment, newlines, beginning, token_length, token_at, bytes_of}
use Rattle.notation.specs.Words.{is_digit, all_digits, value_from, word_from, word_of}
use Rattle.notation.specs.Packing.{sound, reading_from, reading, encoded, refused}
use Rattle.notation_unpack.specs.Unpacking.{decoded_from, decoded, mark, line_of}
use Rattle.notation_faults.specs.Messages.{visible, shown, token_line, said, message}
use Rattle.notation_programs.specs.Outputs.{packed_bytes, pack_output, fault_note, pack_note, line_text, unpack_output, row_note, unpack_note}
use Rattle.notation_programs.specs.Claims.{CasesWritten}

pub cases-written : CasesWritten
unfolding groups read encode bytes ascii digit digits decimal fault_line before separator ends comment newlines beginning token_length
    token_at bytes_of is_digit all_digits value_from word_from word_of sound reading_from reading encoded refused decoded_from decoded
    mark line_of visible shown token_line said message packed_bytes pack_output fault_note pack_note line_text unpack_output row_note
    unpack_note
cases-written =
    record {
      packs = (refl, refl);
      no_number = (refl, refl);
    }
