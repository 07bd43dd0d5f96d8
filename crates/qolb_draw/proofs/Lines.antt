-- Lemmas about an SVG that shows the timelines of several lines below each other.
use Rattle.std.proofs.Common.{◌≡◌, ℕ, ◌+◌, ◌*◌, ◌≤◌, max, List, [], ◌++◌, refl, sym, ap, ◌∙◌, arith}
use Rattle.std.specs.Prelude.{codes}
use Rattle.std.specs.List.{flat_map, range_with_len}
use Rattle.qolb_script.specs.Script.{Script}
use Rattle.qolb_draw.specs.Timelines.{columns_on, line_svg, rows_on, svg_of, top_of, widest}
use Rattle.qolb_draw.specs.Svg.{line_begin, svg_head, texts}
use Rattle.qolb_draw.specs.declared.svg.TheConstants.{LEGEND, TAIL}
use Rattle.qolb_draw.specs.Timelines.{timeline_of}
use Rattle.qolb_draw.proofs.Outs.{top_more, widest_more}
use Rattle.qolb_draw.proofs.Pushing.{piece_pushed}

-- the texts of some lines, the height below them, and the width of the widest
pub record HasLines (script : Script) (number : ℕ) (lines : List ℕ) (top width : ℕ) : Type 0 where
  pub lines_are : lines ≡ flat_map (line_svg script) (range_with_len 0 number)
  pub top_is : top ≡ top_of script number
  pub width_is : width ≡ widest script number
  pub low : top ≤ 64 + 8060 * number

pub no_lines : (script : Script) (lines : List ℕ) → lines ≡ [] → HasLines script 0 lines 64 640
no_lines script lines none = record { lines_are = none; top_is = refl; width_is = refl; low = omega arith }

pub line_placed : (script : Script) (number : ℕ) (lines after piece : List ℕ) (top top' width width' rows columns : ℕ) → HasLines script number lines top width → after ≡ lines ++ piece
    → piece ≡ line_begin top number ++ texts (timeline_of script number) ++ codes "</g>\n" → rows ≡ rows_on script number → rows ≤ 200 → top' ≡ top + (60 + 40 * rows)
    → columns ≡ columns_on script number → width' ≡ max width (128 + 32 * columns) → HasLines script (number + 1) after top' width'
line_placed script number lines after piece top top' width width' rows columns had pushed is rows_are few below columns_are wide =
    let low = had.low in
    record {
      lines_are = piece_pushed (line_svg script) [] number lines after piece had.lines_are (is ∙ ap (λ t. line_begin t number ++ texts (timeline_of script number) ++ codes "</g>\n") had.top_is) pushed;
      top_is = below ∙ ap (λ t. t + (60 + 40 * rows)) had.top_is ∙ ap (λ r. top_of script number + (60 + 40 * r)) rows_are ∙ sym (top_more script number);
      width_is = let same : 128 + 32 * columns ≡ 96 + 32 * columns + 32 = omega arith in
          wide ∙ ap (max width) same ∙ ap (λ w. max w (96 + 32 * columns + 32)) had.width_is ∙ ap (λ n. max (widest script number) (96 + 32 * n + 32)) columns_are ∙ sym (widest_more script number);
      low = omega arith;
    }

pub whole : (script : Script) (number : ℕ) (lines : List ℕ) (top width : ℕ) → HasLines script number lines top width → number ≡ script.lines → svg_head width top ++ LEGEND.now ++ lines ++ TAIL.now ≡ svg_of script
whole script number lines top width had end =
    ap (λ w. svg_head w top ++ LEGEND.now ++ lines ++ TAIL.now) (had.width_is ∙ ap (widest script) end)
    ∙ ap (λ t. svg_head (widest script script.lines) t ++ LEGEND.now ++ lines ++ TAIL.now) (had.top_is ∙ ap (top_of script) end)
    ∙ ap (λ ls. svg_head (widest script script.lines) (top_of script script.lines) ++ LEGEND.now ++ ls ++ TAIL.now) (had.lines_are ∙ ap (λ n. flat_map (line_svg script) (range_with_len 0 n)) end)
