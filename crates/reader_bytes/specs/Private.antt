-- What private functions promise. Nothing public rests on these definitions.
use Rattle.std.specs.Prelude.{ℕ, cond, Result, Ok, Err, List, [], eqb}
use Rattle.answer.specs.declared.Refusal.{Refusal}
use Rattle.answer.specs.declared.Refusal.TheVariants.{BrokenReader}
use Rattle.reader.specs.declared.in_place.Words.{Words}
use Rattle.reader.specs.InPlace.{state_of}
use Rattle.reader_bytes.specs.Bytes.{reader_length, encode}

-- a reader's five words: its bytes without the held ones
unfoldable pub word_bytes : Words → List ℕ
word_bytes n = encode (state_of n [])

-- whether bytes hold a reader, by their length
abbrev pub length_test : ℕ → Result (Unit {0}) Refusal
length_test n = cond (eqb n reader_length) (Ok tt) (Err BrokenReader)
