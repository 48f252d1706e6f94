use Rattle.std.proofs.Common.{◌≡◌, Some, rules, subst}
use Rattle.termimad_c.specs.GrowingTexts.{TakesMore}
use Rattle.termimad_c.specs.Inputs.{is_told}
use Rattle.termimad_c.proofs.exports.termimad_live_take.Goals as goal

pub returns : goal.returns
returns c =
    let same : c.deref_mut.result.now ≡ c.take_out-growing.result.value = search rules in
    let put : c.put_in.new.self.growing ≡ Some c.take-answer.new.self = search rules in (
      c.take_out-growing.result.value,
      c.take-answer.new.self,
      c.take_out-growing.ensures.taken,
      put,
      subst (λ b. TakesMore (is_told c.args.last) b c.args.text.now c.args.buffer.now c.take-answer.result c.take-answer.new.self c.take-answer.new.buffer) same c.take-answer.ensures,
    )
