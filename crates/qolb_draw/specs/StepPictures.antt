-- The picture of a step script, as plain text and as SVG. The definitions in this file were made for this project; none
-- is taken from the literature.
use Rattle.std.specs.Prelude.{◌≡◌, ◌≤◌, ℕ, ◌+◌, max, List, [], ◌∷◌, ◌++◌, length, map, codes, Ok}
use Rattle.std.specs.List.{range_with_len}
use Rattle.link_core.specs.declared.point.Point.{Point}
use Rattle.link_core.specs.declared.point.Point.TheVariants as at
use Rattle.link_core.specs.declared.state.State.{State}
use Rattle.link_core.specs.State.{first, point}
use Rattle.qolb_replay.specs.declared.input.TheConstants.{MAX_BYTES}
use Rattle.qolb_replay.specs.StepRuns.{line_of}
use Rattle.qolb_script.specs.StepScript.{StepScript, steps_of}
use Rattle.qolb_draw.specs.declared.form.Form.{Form}
use Rattle.qolb_draw.specs.declared.form.Form.TheVariants as form
use Rattle.qolb_draw.specs.declared.step_text.TheConstants.{LETTERS}
use Rattle.qolb_draw.specs.declared.step_svg.TheConstants.{STEPS_LEGEND}
use Rattle.qolb_draw.specs.declared.svg.TheConstants.{TAIL}
use Rattle.qolb_draw.specs.Heads.{digit_at, heads_text}
use Rattle.qolb_draw.specs.Svg.{svg_head}
use Rattle.qolb_draw.specs.StepShapes.{Seen, Watches, step_timeline}
use Rattle.qolb_draw.specs.StepSvg.{heard_words, place_words, step_texts, step_x, step_y}

-- the letter of a point
abbrev pub letter_at : Point → ℕ
letter_at at.Idle = 46
letter_at at.Ready = 114
letter_at (at.Linking n) = 108
letter_at at.Queued = 119
letter_at at.Holding = 72
letter_at (at.Leaving n) = 104
letter_at (at.Marking n) = 109
letter_at (at.Granting n) = 103
letter_at at.Freeing = 102
letter_at at.Left = 76
letter_at at.Rolled = 120
letter_at at.Shut = 45

-- the letters of all nodes, in order
abbrev pub letters_of : State → List ℕ
letters_of c = map (λ k. letter_at (point c (k + 1))) (range_with_len 0 c.nodes)

-- a number in six places
abbrev pub number_text : ℕ → List ℕ
number_text n = map (λ value. digit_at value n) (100000 ∷ 10000 ∷ 1000 ∷ 100 ∷ 10 ∷ 1 ∷ [])

-- the line of plain text for an event: the letter of each node after the event, the event, what the event told, and the
-- place of the line
abbrev pub event_line : ℕ → Seen → List ℕ
event_line column seen =
    letters_of seen.after ++ codes " " ++ number_text (column + 1) ++ codes ": " ++ heard_words seen.event seen.told ++ codes "; " ++ place_words seen.after.place ++ codes "\n"

-- the lines of some events, from a column on
abbrev pub event_lines : ℕ → List Seen → List ℕ
event_lines column [] = []
event_lines column (seen ∷ all) = event_line column seen ++ event_lines (column + 1) all

-- the heads of the columns of letters: the numbers of all nodes, with the digits of each number below each other
abbrev pub node_heads : ℕ → List ℕ
node_heads nodes = heads_text [] (range_with_len 1 nodes)

-- the width and the height of an SVG
abbrev pub step_width : ℕ → ℕ
step_width columns = max 800 (step_x columns + 32)

abbrev pub step_height : ℕ → ℕ
step_height nodes = 64 + step_y nodes + 36

-- the picture of a script, made from the recorded run of the script
abbrev pub steps_in : Form → StepScript → List Seen → List ℕ
steps_in form.Text script all = node_heads script.nodes ++ event_lines 0 all ++ LETTERS.now
steps_in form.Svg script all =
    svg_head (step_width (length script.events)) (step_height script.nodes) ++ STEPS_LEGEND.now ++ (step_texts (step_timeline script all) ++ codes "</g>\n") ++ TAIL.now

-- the text is a picture of a run of the script
pub record IsDrawn (form : Form) (script : StepScript) (text : List ℕ) : Type 0 where
  pub all : List Seen
  pub last : State
  pub runs : Watches (first (line_of script)) script.events all last
  pub text_is : text ≡ steps_in form script all

-- the bytes are a step script, and this is its picture
pub record IsStepPicture (form : Form) (input text : List ℕ) : Type 0 where
  pub fits : length input ≤ MAX_BYTES
  pub script : StepScript
  pub read : steps_of input ≡ Ok script
  pub drawn : IsDrawn form script text
