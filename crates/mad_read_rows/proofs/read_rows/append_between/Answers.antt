use Rattle.std.proofs.Common.{◌++◌, string_bytes, ap, ◌∙◌, rules}
use Rattle.std.specs.Str.{IsUtf8}
use Rattle.std.proofs.lemmas.Str.{IsCharBoundary-start}
use Rattle.mad_md.specs.Flagged.{Run, flags_of}
use Rattle.mad_measure.proofs.TokenLemmas.{ends_at_border}
use Rattle.mad_wrap.specs.Writings.{put_bytes}
use Rattle.mad_wrap.proofs.PlacingLemmas.{run_is_of}
use Rattle.mad_wrap.proofs.WritingLemmas.{up_to_start, token_more}
use Rattle.mad_read_rows.specs.ReadRows.{run_bytes, token_bytes}
use Rattle.mad_read_rows.proofs.read_rows.append_between.Goals as goal

pub loop-at-init : goal.loop-at-init
loop-at-init c =
    let p = c.args.compound in
    let utf8 : IsUtf8 p.src.now = search rules in
    record {
      border = IsCharBoundary-start p.src.now utf8;
      written = up_to_start (token_bytes c.args.skin.now c.args.style.now) c.args.later.now c.args.max p c.args.fit (string_bytes c.args.rows.now);
    }

pub loop-at-preserved : goal.loop-at-preserved
loop-at-preserved c =
    let p = c.args.compound in
    let skin = c.args.skin.now in
    let style = c.args.style.now in
    let later = c.args.later.now in
    let t = c.token_at-token.result in
    let is = c.token_at-token.ensures in
    let put = c.put-put.result in
    record {
      border = ends_at_border c.args.max c.loop-at.at p t is;
      written = token_more (token_bytes skin style) later c.args.max p c.loop-at.at c.args.fit (string_bytes c.args.rows.now) c.loop-at.fit c.put-put.new.self (string_bytes c.loop-at.rows) (string_bytes c.append_token.new.rows) t put
          c.loop-at.invariant.written is c.put-put.ensures
          (c.in_ok-append_token.ensures ∙ ap (λ (r : Run). string_bytes c.loop-at.rows ++ put_bytes later put (run_bytes skin style r)) (run_is_of t c.to_compound-part.result c.to_compound-part.ensures.text c.to_compound-part.ensures.flags));
    }

pub append_token-requires : goal.append_token-requires
append_token-requires c = c.requires c.to_compound-part.result (c.to_compound-part.ensures.flags ∙ ap flags_of c.token_at-token.ensures.part_of)
