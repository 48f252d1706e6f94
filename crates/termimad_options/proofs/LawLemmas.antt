-- What callers rely on.
use Rattle.std.proofs.Common.{◌≡◌, ◌&&◌, List, [], ◌∷◌, Option, Some, None, Bool, true, false, refl, ap, map, option_map, is_some, unwrap_or, true≢false, ℕ, nat_lt, codes, ltb-true}
use Rattle.std.proofs.lemmas.Str.{chars-IsAscii}
use Rattle.std.proofs.lemmas.Str.Ascii.{IsAscii-cons, IsAscii-nil}
use Rattle.std.specs.Char.{is_control}
use Rattle.std.specs.List.{list_all, list_any}
use Rattle.std.specs.Str.{IsAscii}
use Rattle.clap.proofs.WalkLemmas.{both}
use Rattle.clap.proofs.OnLiterals.{clap_on_literals}
use Rattle.termimad_options.specs.Rules.{termimad_rules}
use Rattle.code_names.specs.Names.{language_names}
use Rattle.code_words.specs.Words.{file_names}
use Rattle.termimad_options.specs.declared.calls.Links.TheVariants.{Auto, Always, Never}
use Rattle.termimad_options.specs.Places.{has_controls, is_place}
use Rattle.termimad_options.specs.Plans.{obeys}
use Rattle.termimad_options.specs.Laws.{LinksNeedStyles, NamesAskNothing, OptionsWin, PipesStayPlain, SomeCalls, SomeLanguages, SomeNames, SomePlaces, TerminalsPage}

pub pipes_plain : PipesStayPlain
pipes_plain call around e = (rw e refl, rw e refl, λ s t. rw (s, t, e) refl, rw e refl)

and_false : (b : Bool) → b && false ≡ false
and_false false = refl
and_false true = refl

pub links_need_styles : LinksNeedStyles
links_need_styles Auto around = and_false (obeys around)
links_need_styles Always around = refl
links_need_styles Never around = refl

pub options_win : OptionsWin
options_win = (λ said name. refl, λ call around columns e. rw e refl, λ call around skin e other. rw (e, other) refl)

none_before : {X Y : Type 0} (f : X → Y) (o : Option X) → option_map f o ≡ None → o ≡ None
none_before f None e = refl
none_before f (Some x) e = absurd (true≢false (ap is_some e))

is_nonempty : {X : Type 0} → List X → Bool
is_nonempty [] = false
is_nonempty (x ∷ xs) = true

empty_before : {X Y : Type 0} (f : X → Y) (xs : List X) → map f xs ≡ [] → xs ≡ []
unfolding is_nonempty
empty_before f [] e = refl
empty_before f (x ∷ xs) e = absurd (true≢false (ap is_nonempty e))

pub nothing_asked : NamesAskNothing
unfolding clap_on_literals termimad_rules
nothing_asked program call h = record {
  files = empty_before _ _ h.files;
  width = h.width;
  skin = none_before _ _ h.skin;
  grammar = none_before _ _ h.grammar;
  links = ap (λ o. unwrap_or o Auto) h.links;
  streams = h.streams;
  lives = h.lives;
  writes = h.writes;
  fits = h.fits;
}

pub terminals_page : TerminalsPage
terminals_page call around h e =
    (rw (e, h.writes, h.streams, h.lives, h.fits) refl, λ columns t. rw (h.width, t) refl, λ s n. rw (h.skin, s, e, n) refl)

pub calls_read : SomeCalls
unfolding clap_on_literals termimad_rules
calls_read = record {
  all = refl;
  twice = refl;
  last = refl;
  flag = refl;
  file = refl;
  no_flag = refl;
  unknown = refl;
  zero_columns = refl;
  many_columns = refl;
  no_columns = refl;
  no_value = refl;
  other_links = refl;
  columns = refl;
}

pub names_read : SomeNames
unfolding file_names language_names
names_read = record {
  rust = refl;
  make = refl;
  cmake = refl;
  words = refl;
  text = refl;
  log = refl;
  markdown = refl;
  other = refl;
  input = refl;
}

pub languages_understood : SomeLanguages
unfolding file_names language_names
languages_understood = record { rust = refl; file = refl; known = refl; none = refl; unknown = refl; other_file = refl; empty = refl }

ascii_text : (bs : List ℕ) → list_all (λ b. nat_lt b 128) bs ≡ true → IsAscii bs
ascii_text [] e = IsAscii-nil
ascii_text (b ∷ bs) e =
    let parts = both _ _ e in
    IsAscii-cons b bs (ltb-true _ _ parts.0) (ascii_text bs parts.1)

-- a text of ASCII has the controls that its bytes are
has_as_bytes : (bs : List ℕ) → list_all (λ b. nat_lt b 128) bs ≡ true → has_controls bs ≡ list_any is_control bs
has_as_bytes bs e = ap (list_any is_control) (chars-IsAscii bs (ascii_text bs e))

pub places_read : SomePlaces
unfolding is_place
places_read = record {
  row = refl;
  end = refl;
  follows = refl;
  on = refl;
  back = refl;
  nothing = refl;
  no_text = refl;
  word = refl;
  mixed = refl;
  file = refl;
  escape = has_as_bytes (43 ∷ 47 ∷ 27 ∷ []) refl;
  text = has_as_bytes (codes "+/it's so") refl;
}
