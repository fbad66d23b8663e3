use Rattle.std.proofs.Common.{◌≡◌, ℕ, List, length, get_or, refl, ap, sym, ◌∙◌, arith}
use Rattle.std.proofs.lemmas.Slice.Eq.{bytes_eq-Decides}
use Rattle.name_table.specs.Places.{place_in}
use Rattle.name_table.proofs.Places.{place_of_key}
use Rattle.name_table.proofs.Numbers.place.Goals as goal

pub returns-then-eq-clause-at : goal.returns-then-eq-clause-at
returns-then-eq-clause-at c =
    let guess : ℕ = get_or c.self.inside.guesses c.ending.result 0 in
    let found : c.index-keys-guess.result ≡ get_or c.self.inside.names.keys guess c.index-keys-guess.result =
    c.index-keys-guess.is ∙ ap (λ keys. get_or keys guess c.index-keys-guess.result) c.as_slice-keys.ensures.keys in
    let same : c.index-keys-guess.result.items ≡ c.args.name.now =
    sym c.as_slice.ensures.value ∙ (bytes_eq-Decides c.as_slice.result.now c.args.name.now).0 (sym c.eq.ensures ∙ c.if-eq.true) in
    sym (ap (λ (names : List (List ℕ)). place_in names c.args.name.now) (sym c.self.view_is)
    ∙ place_of_key (λ k. k.items) _ (λ a b. refl) c.self.inside.names.keys guess c.index-keys-guess.result c.args.name.now c.as_slice-keys.ensures.unique
    (omega (arith, c.if-guess-keys.true, ap length c.as_slice-keys.ensures.keys)) (ap (λ k. k.items) (sym found) ∙ same))
