-- What the kit reads in a text.
use Rattle.std.proofs.Common.{◌≡◌, ℕ, ◌==◌, Bool, true, false, not, List, [], ◌∷◌, length, refl, ap, sym, ◌∙◌, subst, arith}
use Rattle.std.proofs.lemmas.Bool.Decides.{nat_tests}
use Rattle.regex.specs.Patterns.{Config, default_config}
use Rattle.regex.specs.Failures.{IsRightKind}
use Rattle.regex.specs.Sources.{IsRefusal}
use Rattle.regex.specs.Views.{builder_config, builder_flags, builder_source, with_flags}
use Rattle.regex.specs.declared.builder.RegexBuilder.{RegexBuilder}
use Rattle.regex.specs.declared.error.Error.{Error}
use Rattle.mad_patterns.specs.Capitals.{has_capital}
use Rattle.mad_patterns.specs.Readings.{options, reading_of, Reading, IsReadingOf, IsReadOrRefused, IsSaidOf}
use Rattle.mad_patterns.specs.declared.readings.Sought.{Sought}

-- default options, in any case or not
abbrev pub cased : Bool → Config
cased any = record default_config { flags = record default_config.flags { case_insensitive = any } }

-- the options of a builder
pub under : (b new : RegexBuilder) (text : List ℕ) (any capital : Bool) → builder_config b ≡ default_config → new ≡ with_flags b (record (builder_flags b) { case_insensitive = any }) → any ≡ not capital → capital ≡ has_capital text
    → (let given : Config = record (builder_config new) { utf8 = true } in given) ≡ options text
under b new text any capital plain is not_one has_one =
    ap (λ (x : RegexBuilder). let given : Config = record (builder_config x) { utf8 = true } in given) is
    ∙ (ap (λ (config : Config). let given : Config = record (record config { flags = record config.flags { case_insensitive = any } }) { utf8 = true } in given) plain ∙ ap cased (not_one ∙ ap not has_one))

-- its text
pub of_text : (b new : RegexBuilder) (text : List ℕ) (any : Bool) → builder_source b ≡ text → new ≡ with_flags b (record (builder_flags b) { case_insensitive = any }) → builder_source new ≡ text
of_text b new text any spelt is = ap builder_source is ∙ spelt

-- a text that it refuses
pub refused : (config : Config) (source text : List ℕ) (e : Error) → config ≡ options text → source ≡ text → IsRefusal config source e → IsRefusal (options text) text e
refused config source text e a b h = subst (λ (t : List ℕ). IsRefusal (options text) t e) b (subst (λ (k : Config). IsRefusal k source e) a h)

pub right_kind : (config : Config) (source text : List ℕ) (e : Error) → config ≡ options text → source ≡ text → IsRightKind config source e → IsRightKind (options text) text e
right_kind config source text e a b h = subst (λ (t : List ℕ). IsRightKind (options text) t e) b (subst (λ (k : Config). IsRightKind k source e) a h)

-- what is said of it
pub refused_so : (text : List ℕ) (e : Error) (sought : Sought) → IsRefusal (options text) text e → IsRightKind (options text) text e → IsSaidOf e sought → IsReadOrRefused text (reading_of sought).pattern (reading_of sought).fault
refused_so text e sought refusal right said =
    subst (λ (reading : Reading). IsReadOrRefused text reading.pattern reading.fault) (sym said.said) (record { error = e; refusal = refusal; right = right; other = said.other; said = refl })

-- a text that isn't empty
pub some_text : (text : List ℕ) (reading : Reading) (b : Bool) → b ≡ (length text == 0) → b ≡ false → IsReadOrRefused text reading.pattern reading.fault → IsReadingOf text reading
some_text [] reading b is untrue h = let e : true ≡ false = sym is ∙ untrue in absurd (cc)
some_text (c ∷ cs) reading b is untrue h = h

-- one that is
pub no_text : (text : List ℕ) (reading : Reading) (b : Bool) → b ≡ (length text == 0) → b ≡ true → IsReadingOf [] reading → IsReadingOf text reading
no_text [] reading b is true_is h = h
no_text (c ∷ cs) reading b is true_is h = let e : (length (c ∷ cs) == 0) ≡ true = sym is ∙ true_is in absurd (grind (arith, nat_tests, e))
