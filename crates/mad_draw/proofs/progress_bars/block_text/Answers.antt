use Rattle.std.proofs.Common.{◌≡◌, ap, sym, arith}
use Rattle.std.specs.Prelude.{encode_utf8_all}
use Rattle.mad_draw.specs.ProgressBars.{block}
use Rattle.mad_draw.proofs.progress_bars.block_text.Goals as goal

pub returns-in-1 : goal.returns-in-1
unfolding lib.Utf8.encode
returns-in-1 c = ap (λ n. encode_utf8_all (block n)) (sym c.in-1.is)

pub returns-in-2 : goal.returns-in-2
unfolding lib.Utf8.encode
returns-in-2 c = ap (λ n. encode_utf8_all (block n)) (sym c.in-2.is)

pub returns-in-3 : goal.returns-in-3
unfolding lib.Utf8.encode
returns-in-3 c = ap (λ n. encode_utf8_all (block n)) (sym c.in-3.is)

pub returns-in-4 : goal.returns-in-4
unfolding lib.Utf8.encode
returns-in-4 c = ap (λ n. encode_utf8_all (block n)) (sym c.in-4.is)

pub returns-in-5 : goal.returns-in-5
unfolding lib.Utf8.encode
returns-in-5 c = ap (λ n. encode_utf8_all (block n)) (sym c.in-5.is)

pub returns-in-6 : goal.returns-in-6
unfolding lib.Utf8.encode
returns-in-6 c = ap (λ n. encode_utf8_all (block n)) (sym c.in-6.is)

pub returns-in-7 : goal.returns-in-7
unfolding lib.Utf8.encode
returns-in-7 c = ap (λ n. encode_utf8_all (block n)) (sym c.in-7.is)

pub returns-in_default : goal.returns-in_default
unfolding lib.Utf8.encode
returns-in_default c = let e : c.args.eighths ≡ 8 = omega arith in ap (λ n. encode_utf8_all (block n)) (sym e)
