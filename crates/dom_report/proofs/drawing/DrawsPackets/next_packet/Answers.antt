use Rattle.std.proofs.Common.{◌≡◌, ◌∙◌, ◌<◌, ◌-◌, ◌/◌, ◌^◌, ap, arith, length, sym}
use Rattle.dom_report.specs.SelfRun.{fields_drawn, next_draw}
use Rattle.dom_report.proofs.Draws.{drawn_next, drawn_width, fields_length, written_over}
use Rattle.dom_report.proofs.drawing.DrawsPackets.next_packet.Goals as goal

pub returns-clause-next : goal.returns-clause-next
returns-clause-next c =
    let some : 0 < c.args.self.now.left = omega arith in
    let width = drawn_width c.args.self.now.width c.args.self.now.word c.args.self.now.left (length c.args.packet.now) some c.requires in
    let wide = ap length c.words_mut.ensures.value ∙ width in
    let written = c.write_fields.ensures ∙ ap (λ n. fields_drawn n (c.draw-key.result / 2 ^ 26) (c.draw-val.result / 2 ^ 16)) wide in
    let size = ap length written ∙ fields_length c.args.self.now.width (c.draw-key.result / 2 ^ 26) (c.draw-val.result / 2 ^ 16) in
    let whole = written_over c.args.packet.now c.write_fields.new.words (width ∙ sym size) ∙ written in
    let fewer : c.draw-val.new.self.left ≡ c.args.self.now.left - 1 = c.draw-val.ensures.left ∙ c.draw-key.ensures.left ∙ c.draw-gap.ensures.left in
    let kept = c.draw-val.ensures.width ∙ c.draw-key.ensures.width ∙ c.draw-gap.ensures.width in
    drawn_next c.args.self.now.width c.args.self.now.word c.args.self.now.left c.draw-gap.result c.draw-key.result c.draw-val.result c.from.result c.draw-val.new.self.width c.draw-val.new.self.word c.draw-val.new.self.left _ some c.draw-gap.ensures.word
    (c.draw-key.ensures.word ∙ ap next_draw c.draw-gap.ensures.new) (c.draw-val.ensures.word ∙ ap next_draw c.draw-key.ensures.new) whole c.from.ensures kept c.draw-val.ensures.new fewer
