-- The table of contents of a bench file (docs/FORMATS.md, "Bench file"): one byte n, and n entries of format, port and
-- length. The captures follow it.
use Rattle.std.specs.Prelude.{ℕ, zero, suc, ◌+◌, ◌*◌, Bool, true, ◌&&◌, List, Result, ltb, leb, eqb, length, get_or}
use Rattle.numbers.specs.Low.{low}
use Rattle.framing.specs.Format.{known, format_of}
use Rattle.answer.specs.declared.Refusal.{Refusal}
use Rattle.answer.specs.Answer.{Answer, given, unless, answer_of}
use Rattle.benchfile.specs.declared.Entry.{Entry}

-- ---- what is in the table

-- n, the number of entries
abbrev pub entries : List ℕ → ℕ
entries s = get_or s 0 0

-- entry i, from 0, has six bytes: format, port, and a length of four bytes, low byte first
abbrev pub format_at : List ℕ → ℕ → ℕ
format_at s i = get_or s (1 + 6 * i) 0

abbrev pub port_at : List ℕ → ℕ → ℕ
port_at s i = get_or s (1 + 6 * i + 1) 0

abbrev pub length_at : List ℕ → ℕ → ℕ
length_at s i = low 4 s (1 + 6 * i + 2)

-- how many bytes the table of contents of n entries has
abbrev pub toc_length : ℕ → ℕ
toc_length n = 1 + 6 * n

-- a file has at most 16 entries, and so a table of contents of at most 97 bytes
abbrev pub most_entries : ℕ
most_entries = 16

abbrev pub longest_toc : ℕ
longest_toc = toc_length most_entries

-- whether the format of entry i is known
abbrev pub known_at : List ℕ → ℕ → Bool
known_at s i = known (format_of (format_at s i))

-- every one of the first k entries has a known format
unfoldable pub all_known : List ℕ → ℕ → Bool
all_known s zero = true
all_known s (suc k) = all_known s k && known_at s k

-- the lengths of the first k entries, added up
unfoldable pub total_length : List ℕ → ℕ → ℕ
total_length s zero = 0
total_length s (suc k) = total_length s k + length_at s k

-- where the capture of entry i starts: after the table of contents and the captures before it
unfoldable pub entry_start : List ℕ → ℕ → ℕ
entry_start s i = toc_length (entries s) + total_length s i

-- the length that the table of contents gives to the whole file: 1 + 6n + lengths
unfoldable pub file_length : List ℕ → ℕ
file_length s = entry_start s (entries s)

-- ---- what is refused with 10

-- n is 1 to 16, the table is not cut, and every format is known
unfoldable pub is_toc : List ℕ → Bool
is_toc s =
    leb 1 (entries s) && leb (entries s) most_entries
    && leb (toc_length (entries s)) (length s)
    && all_known s (entries s)

-- "Contents are judged from the first bytes and the file's length": the total is exactly that length. Bytes behind the
-- table are not looked at, however many are lent (docs/DECISIONS.md, "The first bytes of a bench file").
unfoldable pub is_whole_file : List ℕ → ℕ → Bool
is_whole_file s len = is_toc s && eqb (file_length s) len

-- ---- what the functions answer

abbrev pub length_answer : Result ℕ Refusal → Answer ℕ
length_answer = answer_of 0 (λ n. n)

-- the length that the table of contents gives to the file
unfoldable pub file_length_of : List ℕ → Answer ℕ
file_length_of s = unless 0 (is_toc s) 10 (given (file_length s))

abbrev pub count_answer : Result ℕ Refusal → Answer ℕ
count_answer = answer_of 0 (λ n. n)

-- the number of entries
unfoldable pub entry_count_of : List ℕ → ℕ → Answer ℕ
entry_count_of s len = unless 0 (is_whole_file s len) 10 (given (entries s))

abbrev pub no_entry : Entry
no_entry = record { format = 0; port = 0; length = 0; start = 0 }

abbrev pub entry_answer : Result Entry Refusal → Answer Entry
entry_answer = answer_of no_entry (λ e. e)

unfoldable pub entry_at : List ℕ → ℕ → Entry
entry_at s i = record { format = format_at s i; port = port_at s i; length = length_at s i; start = entry_start s i }

-- entry i, from 0; past the last it is 9
unfoldable pub entry_of : List ℕ → ℕ → ℕ → Answer Entry
entry_of s len i =
    unless no_entry (is_whole_file s len) 10
    (unless no_entry (ltb i (entries s)) 9
    (given (entry_at s i)))
