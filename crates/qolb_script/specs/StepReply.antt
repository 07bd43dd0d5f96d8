-- The reply to a step script: the result of each event, and after the last event the counts of requests. The
-- definitions in this file were made for this project; none is taken from the literature.
use Rattle.std.specs.Prelude.{ℕ, List, [], ◌∷◌, ◌++◌, count_by, codes, decimal, Option, Some, None}
use Rattle.link_core.specs.declared.told.Told.{Told}
use Rattle.qolb_script.specs.declared.reply_text.Said.{Said}
use Rattle.qolb_script.specs.declared.reply_text.Said.TheVariants as said
use Rattle.qolb_script.specs.Said.{said_words}
use Rattle.qolb_script.specs.Reply.{is_served, is_withdrawn, is_told}

-- the answer to an event: the word that the event returned, or that the event was refused
abbrev pub step_said : Option Told → Said
step_said (Some what) = said.Told what
step_said None = said.Refused

-- the line of text for an event, with the rank at its end, such as `went 4`
abbrev pub ranked_text : Option Told → ℕ → List ℕ
ranked_text told rank = said_words (step_said told) ++ codes " " ++ decimal rank ++ 10 ∷ []

-- the summary of the only line: its counts, and the number of nodes that are in a call, wait or hold the line
abbrev pub step_summary : List Said → ℕ → Said
step_summary all left = said.Summary 0 (count_by is_served all) (count_by is_withdrawn all) (count_by is_told all) left
