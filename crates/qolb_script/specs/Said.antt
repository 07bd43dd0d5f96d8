-- How the answers of a replay are written as text, with one line for each answer. The definitions in this file were
-- made for this project; none is taken from the literature.
use Rattle.std.specs.Prelude.{ℕ, List, [], ◌∷◌, ◌++◌, codes, decimal}
use Rattle.hex.specs.Hex.{encode_lower}
use Rattle.qolb_model.specs.declared.answer.Enq.TheVariants as enq
use Rattle.qolb_model.specs.declared.answer.Poll.TheVariants as poll
use Rattle.qolb_model.specs.declared.answer.Out.TheVariants as out
use Rattle.link_core.specs.declared.told.Told.TheVariants as told
use Rattle.qolb_script.specs.declared.reply_text.Said.{Said}
use Rattle.qolb_script.specs.declared.reply_text.Said.TheVariants as said

-- the words of an answer
abbrev pub said_words : Said → List ℕ
said_words (said.Enq enq.Granted) = codes "granted"
said_words (said.Enq enq.Queued) = codes "queued"
said_words (said.Enq enq.Closed) = codes "closed"
said_words (said.Enq enq.Busy) = codes "busy"
said_words (said.Poll poll.Granted) = codes "granted"
said_words (said.Poll poll.Waiting) = codes "waiting"
said_words (said.Poll poll.Closed) = codes "closed"
said_words (said.Out out.Withdrawn) = codes "withdrawn"
said_words (said.Out out.Granted) = codes "granted"
said_words (said.Out out.Closed) = codes "closed"
said_words said.Written = codes "ok"
said_words said.Released = codes "released"
said_words said.Shut = codes "shut"
said_words said.Misuse = codes "misuse"
said_words (said.Bytes line) = encode_lower line.bytes
said_words (said.Told told.Went) = codes "went"
said_words (said.Told told.Granted) = codes "granted"
said_words (said.Told told.Queued) = codes "queued"
said_words (said.Told told.Waiting) = codes "waiting"
said_words (said.Told told.Closed) = codes "closed"
said_words (said.Told told.Busy) = codes "busy"
said_words (said.Told told.Free) = codes "free"
said_words (said.Told told.Withdrawn) = codes "withdrawn"
said_words (said.Told told.Released) = codes "released"
said_words (said.Told told.Shut) = codes "shut"
said_words said.Refused = codes "refused"
said_words (said.Summary line served withdrawn told left) =
    codes "line " ++ decimal line ++ codes " served " ++ decimal served ++ codes " withdrawn " ++ decimal withdrawn
    ++ codes " told " ++ decimal told ++ codes " left " ++ decimal left

-- the answer's line of text, with its newline
abbrev pub said_text : Said → List ℕ
said_text what = said_words what ++ 10 ∷ []
