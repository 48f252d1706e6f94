-- A leaf that has ended doesn't end again.
use Rattle.std.proofs.Common.{◌≡◌, true, false, refl, ap}
use Rattle.markdown_marks.specs.Remaining.{Remaining}
use Rattle.markdown_blocks.specs.Events.{leave, enter, line}
use Rattle.markdown_blocks.specs.declared.leaves.Deed.{Deed}
use Rattle.markdown_blocks.specs.declared.leaves.Deed.TheVariants.{Blank, Begins, Html as HtmlDeed, GoesOn, Closes, Underlines, Tabulates, Heading as HeadingDeed, Rule as RuleDeed}
use Rattle.markdown_leaves.specs.Gather.{Gathering, closed, closed_as, closed_as_it_is, begun_in, blank_in, entered_in, left_in, kind_of, first_text, heading_line, line_done}
use Rattle.markdown_leaves.specs.declared.parts.Kind.{Kind}
use Rattle.markdown_leaves.specs.declared.parts.Kind.TheVariants.{Nothing, Paragraph, Heading, Indented, Fenced, Html, Table, Rule, Definitions}
use Rattle.markdown_stream.specs.Laws.{ends_leaf, LeavesEndEarly}
use Rattle.markdown_stream.proofs.HeldLemmas.{none_open}

none_as : (kind : Kind) (g : Gathering) → g.kind ≡ kind → (closed_as kind g).kind ≡ Nothing
none_as Nothing g h = h
none_as Paragraph g h = refl
none_as (Heading level) g h = refl
none_as Indented g h = refl
none_as Fenced g h = refl
none_as Html g h = refl
none_as (Table columns) g h = refl
none_as Rule g h = refl
none_as Definitions g h = refl

none_after : (g : Gathering) → (closed g).kind ≡ Nothing
unfolding closed
none_after g = none_as g.kind g refl

twice : (g : Gathering) → closed (closed g) ≡ closed g
twice g = none_open (closed g) (none_after g)

line_early : (deed : Deed) (text : Remaining) (g : Gathering) → ends_leaf (line deed text) ≡ true → line_done deed text (closed g) ≡ line_done deed text g
unfolding line_done
line_early Blank text g h = ap blank_in (twice g)
line_early (Begins leaf) text g h = ap (begun_in (kind_of leaf) (first_text leaf text)) (twice g)
line_early HtmlDeed text g h = ap (λ (x : Gathering). closed_as_it_is (begun_in Html text x)) (twice g)
line_early GoesOn text g h = let no : false ≡ true = h in absurd (cc)
line_early Closes text g h = twice g
line_early (Underlines level) text g h = let no : false ≡ true = h in absurd (cc)
line_early (Tabulates columns) text g h = let no : false ≡ true = h in absurd (cc)
line_early (HeadingDeed level) text g h = ap (λ (x : Gathering). closed_as_it_is (begun_in (Heading level) (heading_line text) x)) (twice g)
line_early RuleDeed text g h = ap (λ (x : Gathering). closed_as_it_is (begun_in Rule text x)) (twice g)

-- before an event that ends the open leaf this may be told already
pub leaves_end_early : LeavesEndEarly
leaves_end_early g leave h = ap left_in (twice g)
leaves_end_early g (enter container) h = ap (entered_in container) (twice g)
leaves_end_early g (line deed text) h = ap (λ (x : Gathering). record x { fresh = false }) (line_early deed text g h)
