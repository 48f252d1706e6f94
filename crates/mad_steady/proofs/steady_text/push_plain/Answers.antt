use Rattle.std.proofs.Common.{ℕ, ◌-◌, ◌≤◌, List, length, get_or, ap, sym, subst, arith}
use Rattle.std.specs.Prelude.{string_bytes}
use Rattle.std.specs.Str.{IsUtf8}
use Rattle.mad_steady.specs.Plain.{ArePlain}
use Rattle.mad_steady.proofs.FrontLemmas.{IsFront, border, left_utf8, behind_them, written_front}
use Rattle.mad_steady.proofs.steady_text.push_plain.Goals as goal

pub split_at-requires : goal.split_at-requires
split_at-requires c =
    let same = c.as_bytes-bytes.ensures.value in
    let n : ℕ = c.plain_len-len.result in
    border c.args.text.now n c.utf8.text (omega (arith, c.plain_len-len.ensures.inside, ap length same)) (subst (λ (l : List ℕ). ArePlain l n) same c.plain_len-len.ensures.plain)

pub returns : goal.returns
returns c =
    let same = c.as_bytes-bytes.ensures.value in
    let n : ℕ = c.plain_len-len.result in
    let last : ℕ = get_or c.as_bytes-bytes.result.now (n - 1) 0 in
    let inside : n ≤ length c.args.text.now = omega (arith, c.plain_len-len.ensures.inside, ap length same) in
    let plain : ArePlain c.args.text.now n = subst (λ (l : List ℕ). ArePlain l n) same c.plain_len-len.ensures.plain in
    let front : IsFront c.args.text.now n last = record {
      utf8 = c.utf8.text;
      inside = inside;
      plain = plain;
      some = omega (arith, c.if-len-eq0.false);
      last_is = ap (λ (l : List ℕ). get_or l (n - 1) 0) same;
    } in
    let place = c.behind_plain-after.ensures in
    let back = c.split_at.ensures.back in
    record {
      utf8 = subst IsUtf8 (sym back) (left_utf8 c.args.text.now n c.utf8.text inside plain);
      text = written_front (string_bytes c.args.shown.now) (string_bytes c.push_held.new.shown) (string_bytes c.push_str.new.self) c.args.text.now c.split_at.result.0.now c.split_at.result.1.now n last c.args.place c.behind_plain-after.result
          front place c.split_at.ensures.front back c.in_ok-push_held.ensures c.in_ok-push_str.ensures.bytes;
      behind = behind_them c.args.text.now c.split_at.result.1.now n last c.args.place c.behind_plain-after.result front place back;
      fewer = omega (arith, c.split_at.ensures.back_len);
    }
