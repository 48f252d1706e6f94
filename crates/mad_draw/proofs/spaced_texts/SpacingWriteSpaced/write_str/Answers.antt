use Rattle.std.proofs.Common.{◌≡◌, ℕ, length, rules, subst}
use Rattle.std.specs.Prelude.{chars}
use Rattle.std.proofs.lemmas.Str.{chars_from_encodes}
use Rattle.mad_term.specs.Draws.{Draws}
use Rattle.mad_term.specs.Styles.{piece_bytes}
use Rattle.mad_draw.specs.SpacedTexts.{spaced_text}
use Rattle.mad_draw.proofs.spaced_texts.SpacingWriteSpaced.write_str.Goals as goal

pub returns-clause-writes : goal.returns-clause-writes
returns-clause-writes g c =
    let count : c.count.result ≡ length (chars c.args.s.now) = search (rules, chars_from_encodes) in
    subst (λ (n : ℕ). Draws (g.O.Out.seen c.args.out.now) (piece_bytes c.args.style.now.object_style (spaced_text c.args.self.now c.args.s.now n)) c.write_counted_str.result (g.O.Out.seen c.write_counted_str.new.out)) count
    c.write_counted_str.ensures.writes
