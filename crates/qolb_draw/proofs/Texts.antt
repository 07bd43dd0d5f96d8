-- Lemmas about how a command is written as text, and about the byte offsets that the mask of a write selects.
use Rattle.std.proofs.Common.{◌≡◌, ℕ, ◌+◌, cond, true, false, List, [], ◌∷◌, ◌++◌, length, take, get_or, sym, ap, ◌∙◌, append_assoc, append-nil}
use Rattle.std.specs.Prelude.{codes}
use Rattle.std.specs.List.{flat_map, range_with_len}
use Rattle.std.proofs.Math.Seq.{take-append_seam}
use Rattle.line_lanes.specs.Mask.{is_masked}
use Rattle.line_lanes.specs.declared.line.Line64.{Line64}
use Rattle.line_lanes.specs.declared.line.Mask.{Mask}
use Rattle.qolb_script.specs.declared.command.Command.{Command}
use Rattle.qolb_script.specs.declared.command.Command.TheVariants.{Write}
use Rattle.qolb_draw.specs.Svg.{hex_of, written_words}
use Rattle.qolb_words.specs.Words.{field}
use Rattle.qolb_draw.specs.Shapes.{place_if, places_in}
use Rattle.qolb_words.proofs.Pieces.{begins, piece, ◌▸◌}
use Rattle.qolb_draw.proofs.Pushing.{piece_pushed}

-- the places of a mask up to the next place, which the mask selects or not
pub place_kept : (mask k : ℕ) (places after : List ℕ) → places ≡ flat_map (place_if mask) (range_with_len 0 k) → is_masked mask k ≡ true → after ≡ places ++ k ∷ [] → after ≡ flat_map (place_if mask) (range_with_len 0 (k + 1))
place_kept mask k places after was here pushed =
    piece_pushed (place_if mask) [] k places after (k ∷ []) was (ap (λ b. cond b (k ∷ []) []) (sym here)) pushed

pub place_left_out : (mask k : ℕ) (places after : List ℕ) → places ≡ flat_map (place_if mask) (range_with_len 0 k) → is_masked mask k ≡ false → after ≡ places → after ≡ flat_map (place_if mask) (range_with_len 0 (k + 1))
place_left_out mask k places after was there same =
    piece_pushed (place_if mask) [] k places after [] was (ap (λ b. cond b (k ∷ []) []) (sym there)) (same ∙ sym (append-nil places))

pub all_places : (mask k : ℕ) (places : List ℕ) → places ≡ flat_map (place_if mask) (range_with_len 0 k) → k ≡ 64 → places ≡ places_in mask
unfolding places_in
all_places mask k places was end = was ∙ ap (λ n. flat_map (place_if mask) (range_with_len 0 n)) end

-- a text without its last byte
pub last_taken : (text words pushed after : List ℕ) (n : ℕ) → pushed ≡ text ++ (words ++ 10 ∷ []) → n ≡ length (text ++ words) → after ≡ take n pushed → after ≡ text ++ words
last_taken text words pushed after n is count taken =
    taken ∙ ap (take n) (is ∙ sym (append_assoc text words (10 ∷ []))) ∙ ap (λ k. take k ((text ++ words) ++ 10 ∷ [])) count ∙ take-append_seam (text ++ words) (10 ∷ [])

-- the words of a write that follow its line
pub written_pushed : (node line : ℕ) (mask : Mask) (bytes : Line64) (c : Command) (places text a b after : List ℕ) (first : ℕ) → c ≡ Write node line mask bytes → places ≡ places_in mask.0 → first ≡ get_or places 0 0
    → a ≡ text ++ field (codes " ") first → b ≡ a ++ codes " " → after ≡ b ++ hex_of bytes.bytes places → after ≡ text ++ written_words c
written_pushed node line mask bytes c places text a b after first is all at begun then last =
    (begins text (field (codes " ") first) begun ▸ piece (codes " ") then ▸ piece (hex_of bytes.bytes places) last).is
    ∙ ap (λ n. text ++ (field (codes " ") n ++ codes " " ++ hex_of bytes.bytes places)) at
    ∙ ap (λ ps. text ++ (field (codes " ") (get_or ps 0 0) ++ codes " " ++ hex_of bytes.bytes ps)) all
    ∙ ap (λ (b : Command). text ++ written_words b) (sym is)
