use Rattle.std.proofs.Common.{◌≡◌, ◌-◌, ◌*◌, take, ap, ◌∙◌, arith}
use Rattle.mad_draw.proofs.FillingLemmas.{few_bytes, front_is, front_border}
use Rattle.mad_draw.proofs.fillings.Filling.front.Goals as goal

pub overflow_mul-count : goal.overflow_mul-count
overflow_mul-count c = omega (arith, few_bytes c.args.count c.len_utf8.result c.requires c.len_utf8.ensures.upper_bound)

pub range-requires-clause-end_boundary : goal.range-requires-clause-end_boundary
range-requires-clause-end_boundary c =
    front_border c.deref.result.now c.args.count (c.args.count * c.len_utf8.result) c.args.self.now.filling_char c.know_char.ensures (c.deref.ensures ∙ c.args.self.now.whole) c.requires (ap (λ n. c.args.count * n) c.len_utf8.ensures.value)

pub returns : goal.returns
returns c =
    let bytes = c.args.count * c.len_utf8.result in
    let cut : bytes - 0 ≡ bytes = omega arith in
    c.range.ensures.value ∙ ap (λ n. take n c.deref.result.now) cut
    ∙ front_is c.deref.result.now c.args.count bytes c.args.self.now.filling_char (c.deref.ensures ∙ c.args.self.now.whole) c.requires (ap (λ n. c.args.count * n) c.len_utf8.ensures.value)
