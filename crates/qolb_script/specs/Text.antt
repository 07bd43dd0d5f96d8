-- How the text of a script is split into lines and words, and which words denote numbers. The definitions in this file
-- were made for this project; none is taken from the literature.
use Rattle.std.specs.Prelude.{ℕ, ◌==◌, ◌&&◌, ◌^◌, nat_le, nat_lt, not, Bool, if◌then◌else◌, List, length, filter, Option, Some, None, Result, Ok, Err}
use Rattle.std.specs.List.{slice_split, list_all, enumerate_from}
use Rattle.std.specs.Str.{all_ascii_digits}
use Rattle.std.specs.Str.Parse.{digits_value}
use Rattle.qolb_script.specs.declared.reason.Reason.{Reason}
use Rattle.qolb_script.specs.declared.reason.Reason.TheVariants.{Number}

-- the lines of a text without their newlines, numbered from 1
abbrev pub numbered_lines : List ℕ → List (ℕ × List ℕ)
numbered_lines text = enumerate_from 1 (slice_split (λ b. b == 10) text)

-- the words of a line
abbrev pub words_of : List ℕ → List (List ℕ)
words_of line = filter (λ word. not (length word == 0)) (slice_split (λ b. b == 32) line)

-- the lines that have at least one word
abbrev pub worded : List (ℕ × List ℕ) → List (ℕ × List ℕ)
worded lines = filter (λ line. not (length (words_of line.1) == 0)) lines

-- every byte is a space or a visible ASCII character
abbrev pub is_plain : List ℕ → Bool
is_plain line = list_all (λ b. nat_le 32 b && nat_le b 126) line

-- the number that a word of 1 to 20 decimal digits denotes, if its value is below 2^64
abbrev pub number_of : List ℕ → Option ℕ
number_of word =
    if nat_le 1 (length word) && nat_le (length word) 20 && all_ascii_digits word && nat_lt (digits_value 10 word) (2 ^ 64)
    then Some (digits_value 10 word)
    else None

-- the number that the word at this place denotes, if it is from `low` to `high`
abbrev pub between : ℕ → ℕ → ℕ → Option ℕ → Result ℕ Reason
between place low high None = Err (Number place low high)
between place low high (Some n) = if nat_le low n && nat_le n high then Ok n else Err (Number place low high)

abbrev pub number_within : ℕ → ℕ → ℕ → List ℕ → Result ℕ Reason
number_within place low high word = between place low high (number_of word)
