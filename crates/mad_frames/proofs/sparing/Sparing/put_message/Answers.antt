use Rattle.std.proofs.Common.{◌≡◌, ◌∙◌, true, [], ◌∷◌, ◌++◌, List, ℕ, Some, ap, flat_map, refl, sym, subst, rules}
use Rattle.std.proofs.lemmas.Grind.{flat_map-append}
use Rattle.std.proofs.lemmas.List.{append-nil}
use Rattle.mad_frames.specs.Sparing.{IsSent, Spared, known_screen, next_screen}
use Rattle.mad_frames.proofs.SparingLemmas.{message_keeps}
use Rattle.mad_frames.proofs.sparing.Sparing.put_message.Goals as goal

pub invariant_of-self-in-Some : goal.invariant_of-self-in-Some
invariant_of-self-in-Some g c =
    let told : List ℕ = flat_map (λ v. v.items) c.self.inside.told.items in
    let drawn = c.self.inside.drawn.items in
    let bytes = c.args.message.bytes.items in
    let old : Spared = record {
      told = told ++ drawn;
      faults = c.self.inside.faults;
      flushes = c.self.inside.flushes;
      below = g.O.Out.seen c.self.inside.below;
      columns = c.self.inside.columns;
      rows = c.self.inside.rows;
      screen = c.self.inside.screen;
      known = c.self.inside.known;
      drawn = drawn;
      unsent = c.self.inside.unsent.items;
    } in
    let new : Spared = record {
      told = flat_map (λ v. v.items) c.and-self-inside.result.items ++ c.clear.new.self.items;
      faults = c.self.inside.faults;
      flushes = c.self.inside.flushes;
      below = g.O.Out.seen c.self.inside.below;
      columns = c.self.inside.columns;
      rows = c.self.inside.rows;
      screen = c.replace.new.dest;
      known = true;
      drawn = c.clear.new.self.items;
      unsent = c.extend_from_slice.new.self.items;
    } in
    let empty : c.clear.new.self.items ≡ [] = search rules in
    let more : flat_map (λ v. v.items) c.and-self-inside.result.items ≡ told ++ drawn =
    ap (flat_map (λ v. v.items)) c.and-self-inside.ensures ∙ flat_map-append (λ v. v.items) c.self.inside.told.items (c.self.inside.drawn ∷ []) ∙ ap (λ (l : List ℕ). told ++ l) (append-nil drawn) in
    let all : new.told ≡ told ++ drawn =
    ap (λ (l : List ℕ). flat_map (λ v. v.items) c.and-self-inside.result.items ++ l) empty ∙ append-nil (flat_map (λ v. v.items) c.and-self-inside.result.items) ∙ more in
    let unsent : c.extend_from_slice.new.self.items ≡ c.self.inside.unsent.items ++ bytes = search rules in
    let view : old ≡ c.args.self.now = c.self.view_is in
    let stored : c.replace.new.dest ≡ c.in-Some.screen = search rules in
    let told_so : Some c.in-Some.screen ≡ c.args.message.screen = search rules in
    let screen : known_screen new ≡ next_screen old = ap Some stored ∙ told_so ∙ c.requires.screen ∙ ap next_screen (sym view) in
    message_keeps old new told bytes refl all empty unsent refl screen (subst (λ (s : Spared). IsSent s bytes) (sym view) c.requires.sent) c.self.invariant
