-- The picture of a schedule, as plain text and as SVG. The plain text shows the commands on each line in blocks of at
-- most 70. In each block, every node that makes calls on the line has a row with a letter for each command. The
-- definitions in this file were made for this project; none is taken from the literature.
use Rattle.std.specs.Prelude.{◌≡◌, ℕ, ◌+◌, ◌-◌, ◌≤◌, ◌*◌, ◌/◌, List, [], ◌∷◌, ◌++◌, length, map, flat_map, take, drop, replicate, codes, Result, Ok, Err}
use Rattle.std.specs.List.{range_with_len}
use Rattle.qolb_replay.specs.declared.input.TheConstants.{MAX_BYTES}
use Rattle.qolb_script.specs.declared.error.ScriptError.{ScriptError}
use Rattle.qolb_script.specs.Script.{Script, script_of}
use Rattle.qolb_draw.specs.declared.form.Form.{Form}
use Rattle.qolb_draw.specs.declared.form.Form.TheVariants as form
use Rattle.qolb_draw.specs.declared.symbol.Symbol.{Symbol}
use Rattle.qolb_draw.specs.declared.symbol.Symbol.TheVariants as symbol
use Rattle.qolb_draw.specs.declared.text.TheConstants.{COLUMNS}
use Rattle.qolb_draw.specs.Timelines.{svg_of}
use Rattle.qolb_draw.specs.LineRuns.{Step, mark_at, steps_on, callers}
use Rattle.qolb_draw.specs.Heads.{digit_at, heads_text}

-- the letter of each mark
abbrev pub letter_of : Symbol → ℕ
letter_of symbol.Idle = 46
letter_of symbol.Waits = 119
letter_of symbol.AtTurn = 116
letter_of symbol.Holds = 72
letter_of symbol.Withdrawn = 120
letter_of symbol.Shut = 45
letter_of symbol.Told = 99
letter_of symbol.Gives = 62
letter_of symbol.Takes = 60
letter_of (symbol.Misuse stand) = 33

-- a node's row: the node's number, in three places, and a letter for each command, which shows the node's mark after
-- the command
abbrev pub label_of : ℕ → List ℕ
label_of n = codes "node " ++ map (λ value. digit_at value n) (100 ∷ 10 ∷ 1 ∷ []) ++ 32 ∷ []

-- a margin as wide as the label
abbrev pub label_room : List ℕ
label_room = replicate 9 32

abbrev pub row_text : List Step → ℕ → List ℕ
row_text steps n = label_of n ++ map (λ step. letter_of (mark_at step n)) steps ++ 10 ∷ []

-- a block: an empty line, the numbers of its commands, and the rows of these nodes
abbrev pub block_text : List ℕ → List Step → List ℕ
block_text nodes steps = 10 ∷ [] ++ heads_text label_room (map (λ step. step.number) steps) ++ flat_map (row_text steps) nodes

-- the steps of block k; the number of blocks
abbrev pub block_at : List Step → ℕ → List Step
block_at steps k = take COLUMNS (drop (COLUMNS * k) steps)

abbrev pub block_count : ℕ → ℕ
block_count n = (n + (COLUMNS - 1)) / COLUMNS

abbrev pub blocks_text : List ℕ → List Step → List ℕ
blocks_text nodes steps = flat_map (λ k. block_text nodes (block_at steps k)) (range_with_len 0 (block_count (length steps)))

-- the picture of a line: its number, which has one digit, the blocks, and an empty line
abbrev pub line_text : Script → ℕ → List ℕ
line_text script line = codes "line " ++ (48 + line) ∷ 10 ∷ [] ++ blocks_text (callers script.nodes (steps_on line script)) (steps_on line script) ++ 10 ∷ []

-- the legend of the letters
abbrev pub legend : List ℕ
legend = codes ". idle   w waits   t its turn has come   H holds   > hands over to <\nx withdrawn   c told that the line is closed   - closed   ! misuse\n"

-- the picture of a schedule: the pictures of all its lines, and the legend
abbrev pub picture_of : Script → List ℕ
picture_of script = flat_map (line_text script) (range_with_len 0 script.lines) ++ legend

-- the picture of a schedule in a form
abbrev pub in_form : Form → Script → List ℕ
in_form form.Text script = picture_of script
in_form form.Svg script = svg_of script

-- the picture of the schedule that the bytes are, or the first fault in the bytes
abbrev pub drawn : Form → Result Script ScriptError → Result (List ℕ) ScriptError
drawn form (Ok script) = Ok (in_form form script)
drawn form (Err error) = Err error

abbrev pub picture_to : Form → List ℕ → Result (List ℕ) ScriptError
picture_to form text = drawn form (script_of text)

-- the bytes are a schedule, and this is its picture
pub record IsPicture (form : Form) (input text : List ℕ) : Type 0 where
  pub fits : length input ≤ MAX_BYTES
  pub picture : picture_to form input ≡ Ok text
