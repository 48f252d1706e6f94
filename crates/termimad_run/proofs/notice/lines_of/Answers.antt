use Rattle.std.proofs.Common.{◌≡◌, ◌++◌, ◌∷◌, [], ap, rules, string_bytes, codes, ◌∙◌}
use Rattle.std.specs.Char.{encode_utf8}
use Rattle.termimad_run.proofs.Notices.{line_said}
use Rattle.termimad_run.proofs.notice.lines_of.Goals as goal

pub loop-key-preserved : goal.loop-key-preserved
unfolding encode_utf8
loop-key-preserved c =
    let said = string_bytes c.loop-key.lines in
    let key = string_bytes c.key-item.result in
    let one : string_bytes c.push_str.new.self ≡ said ++ codes "unknown key: " = c.in_ok-push_str.ensures.bytes in
    let two : string_bytes c.push_str-in-loop-key.new.self ≡ string_bytes c.push_str.new.self ++ key = search rules in
    let three : string_bytes c.push.new.self ≡ string_bytes c.push_str-in-loop-key.new.self ++ (10 ∷ []) = c.in_ok-push.ensures.bytes in
    line_said string_bytes c.args.keys.now c.loop-key.key-index c.key-item.result said (string_bytes c.push.new.self) key c.loop-key-test.true (search rules)
    (three ∙ ap (λ l. l ++ (10 ∷ [])) (two ∙ ap (λ l. l ++ key) one))
    ∙ c.loop-key.invariant
