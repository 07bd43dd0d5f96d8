use Rattle.std.proofs.Common.{get_or, ap, ◌∙◌, ◌++◌}
use Rattle.qolb_draw.specs.Svg.{hex_of}
use Rattle.qolb_draw.proofs.Texts.{written_pushed}
use Rattle.qolb_draw.proofs.call.push_written.Goals as goal

pub returns-in_ok-push_hex : goal.returns-in_ok-push_hex
returns-in_ok-push_hex g c =
    written_pushed c.in-Write.node c.in-Write.line c.in-Write.mask c.in-Write.bytes c.args.command.now c.in_ok-places.places.items c.args.text.now.items c.push_field.new.text.items c.extend_from_slice.new.self.items c.push_hex.new.text.items c.from.result
    c.in-Write.is c.in_ok-places.ensures (c.from.ensures ∙ c.first_of.ensures ∙ ap (λ ps. get_or ps 0 0) c.deref.ensures.value) c.in_ok-push_field.ensures c.in_ok-extend_from_slice.ensures.items
    (c.in_ok-push_hex.ensures ∙ ap (λ ps. c.extend_from_slice.new.self.items ++ hex_of c.in-Write.bytes.bytes ps) c.deref-in-Write.ensures.value)
