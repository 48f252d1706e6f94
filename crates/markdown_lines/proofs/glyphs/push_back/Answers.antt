use Rattle.std.proofs.Common.{subst}
use Rattle.std.specs.Str.{IsUtf8}
use Rattle.std.specs.Str.Iter.{chars_rest}
use Rattle.markdown_lines.proofs.GlyphLemmas.{one_back, none_back}
use Rattle.markdown_lines.proofs.glyphs.push_back.Goals as goal

pub loop-c-preserved : goal.loop-c-preserved
loop-c-preserved c =
    let held = c.loop-c.invariant in
    let parts = c.in-Some.ensures.steps in
    let utf8 : IsUtf8 (chars_rest c.next_back.new.self) = subst IsUtf8 c.as_str-before.ensures c.as_str-before.utf8 in
    record {
      utf8 = utf8;
      so_far = one_back c.args.bold c.args.look.now (chars_rest c.loop-c.rest) (chars_rest c.next_back.new.self) c.in-Some.c c.glyph_of.result c.loop-c.glyphs.items c.push.new.self.items _
          held.utf8 utf8 parts c.glyph_of.ensures c.in_ok-push.ensures.items held.so_far;
    }

pub returns : goal.returns
returns c = none_back c.args.bold c.args.look.now (chars_rest c.loop-c.rest) c.loop-c.glyphs.items _ c.in_default.ensures.steps.0 c.loop-c.invariant.so_far
