use Rattle.std.proofs.Common.{◌≡◌, true, ◌&&◌, nat_eq, ap, sym, ◌∙◌}
use Rattle.std.specs.Cmp.Lexicographic.{pointwise, bytes_decides}
use Rattle.mad_screen.specs.Glyph.{Glyph, look_of}
use Rattle.mad_screen.specs.Pictures.{same_look}
use Rattle.mad_frames.specs.Bound.{is_same_cell}
use Rattle.mad_frames.proofs.LooksLemmas.{glyph_of, same_glyph, same_look_true, same_look_refl}
use Rattle.mad_frames.proofs.runs.same_cell.Goals as goal

pub returns-then-eq : goal.returns-then-eq
returns-then-eq c =
    let p = look_of c.a.inside.pen in
    let q = look_of c.b.inside.pen in
    let chars : c.a.inside.chars.items ≡ c.b.inside.chars.items = sym c.as_slice.ensures.value ∙ (bytes_decides c.as_slice.result.now c.as_slice-2.result.now).0 (sym c.eq.ensures ∙ c.if-eq.true) ∙ c.as_slice-2.ensures.value in
    let alike : pointwise nat_eq c.a.inside.chars.items c.b.inside.chars.items ≡ true = (bytes_decides c.a.inside.chars.items c.b.inside.chars.items).1 chars in
    record {
      value = c.same_pen.ensures ∙ sym (ap (λ t. t && same_look p q) alike) ∙ ap (λ (g : Glyph). is_same_cell g (glyph_of c.b.inside.chars.items q)) c.a.view_is ∙ ap (is_same_cell c.args.a.now) c.b.view_is;
      equal = (
        λ t. sym c.a.view_is ∙ same_glyph c.a.inside.chars.items c.b.inside.chars.items p q chars (same_look_true p q (sym c.same_pen.ensures ∙ t)) ∙ c.b.view_is,
        λ e. c.same_pen.ensures ∙ ap (same_look p) (sym (ap (λ (g : Glyph). g.pen) (c.a.view_is ∙ e ∙ sym c.b.view_is))) ∙ same_look_refl p,
      );
    }
