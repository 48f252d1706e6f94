use Rattle.std.proofs.Common.{◌≡◌, Some, rules, subst}
use Rattle.termimad_c.specs.GrowingTexts.{ResizesText}
use Rattle.termimad_c.proofs.exports.termimad_live_resize.Goals as goal

pub returns : goal.returns
returns c =
    let same : c.deref_mut.result.now ≡ c.take_out-growing.result.value = search rules in
    let put : c.put_in.new.self.growing ≡ Some c.resize-answer.new.self = search rules in (
      c.take_out-growing.result.value,
      c.resize-answer.new.self,
      c.take_out-growing.ensures.taken,
      put,
      subst (λ b. ResizesText c.args.width c.args.height b c.args.buffer.now c.resize-answer.result c.resize-answer.new.self c.resize-answer.new.buffer) same c.resize-answer.ensures,
    )
