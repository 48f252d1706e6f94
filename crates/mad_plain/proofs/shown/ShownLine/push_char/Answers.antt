use Rattle.std.proofs.Common.{◌≡◌, ◌++◌, ◌∷◌, [], ◌∙◌, ap, sym, arith, length, chars, string_bytes, length-append, zero-add}
use Rattle.std.proofs.lemmas.Str.{IsUtf8-string_bytes}
use Rattle.mad_plain.specs.Runs.{spread}
use Rattle.mad_plain.proofs.RunLemmas.{within_more, spread_more, chars_pushed, chars_short}
use Rattle.mad_plain.proofs.shown.ShownLine.push_char.Goals as goal

pub overflow_add-self : goal.overflow_add-self
overflow_add-self c = let l = c.args.self.now in let v = l.text.bytes in omega (arith, l.counted, chars_short (string_bytes l.text) (IsUtf8-string_bytes l.text), v.ok.0, v.ok.1, v.small)

pub invariant_of-self-2 : goal.invariant_of-self-2
invariant_of-self-2 c =
    let l = c.args.self.now in
    let more : chars (string_bytes c.push.new.self) ≡ chars (string_bytes l.text) ++ c.args.c ∷ [] = ap chars c.in_ok-push.ensures.bytes ∙ chars_pushed (string_bytes l.text) c.args.c (IsUtf8-string_bytes l.text) c.ranges.c.0 in
    record { counted = omega (arith, l.counted, ap length more, length-append (chars (string_bytes l.text)) (c.args.c ∷ [])); ordered = within_more 0 l.runs.items l.count l.ordered }

pub returns : goal.returns
returns c =
    let l = c.args.self.now in
    let more : chars (string_bytes c.push.new.self) ≡ chars (string_bytes l.text) ++ c.args.c ∷ [] = ap chars c.in_ok-push.ensures.bytes ∙ chars_pushed (string_bytes l.text) c.args.c (IsUtf8-string_bytes l.text) c.ranges.c.0 in
    ap (λ cs. spread l.style 0 l.runs.items cs) more ∙ spread_more l.style 0 l.runs.items (chars (string_bytes l.text)) c.args.c l.count l.ordered (l.counted ∙ sym (zero-add _))
