use Rattle.std.proofs.Common.{◌≡◌, ◌<◌, ◌++◌, length, sym, arith, encode_utf8}
use Rattle.mad_keys.proofs.EventLemmas.{char_at-no_text, char_at-one, char_at-more}
use Rattle.mad_keys.proofs.characters.char_of.Goals as goal

pub returns-in_default : goal.returns-in_default
returns-in_default c = sym (char_at-no_text c.args.bytes.now c.in_default.ensures.cases.0)

pub returns-then-is_empty : goal.returns-then-is_empty
returns-then-is_empty c =
    let split : c.args.bytes.now ≡ encode_utf8 c.in_ok-c.c ++ c.as_str.result.now = grind (arith, c.in_ok-c.ensures.steps.0, c.chars-chars.ensures.rest, c.in-Ok.ensures.cases.0, c.as_str.ensures) in
    let none : length c.as_str.result.now ≡ 0 = grind arith in
    sym (char_at-one c.args.bytes.now c.as_str.result.now c.in_ok-c.c c.in-Ok.ensures.cases.1 split none)

pub returns-else-is_empty : goal.returns-else-is_empty
returns-else-is_empty c =
    let split : c.args.bytes.now ≡ encode_utf8 c.in_ok-c.c ++ c.as_str.result.now = grind (arith, c.in_ok-c.ensures.steps.0, c.chars-chars.ensures.rest, c.in-Ok.ensures.cases.0, c.as_str.ensures) in
    let some : 0 < length c.as_str.result.now = grind arith in
    sym (char_at-more c.args.bytes.now c.as_str.result.now c.in_ok-c.c c.in-Ok.ensures.cases.1 split some)
