-- Records that are written one after the other.
use Rattle.std.proofs.Common.{◌≡◌, ℕ, ◌+◌, ◌<◌, List, [], ◌∷◌, ◌++◌, length, map, take, drop, get_or, set, sym, ap, ◌∙◌, arith}
use Rattle.std.proofs.lemmas.List.{length-map, length-take, drop_more, map_more, set_at, append_assoc}
use Rattle.step_journal.specs.declared.entry.Entry.{Entry}
use Rattle.c_forms.specs.declared.entries.EntryForm.{EntryForm}
use Rattle.c_forms.specs.Forms.{form_of_entry}

pub put_more : (es : List Entry) (init ys : List EntryForm) (i : ℕ) (d : Entry) (v w : EntryForm) → i < length es → i < length init → ys ≡ map form_of_entry (take i es) ++ drop i init
    → v ≡ form_of_entry (get_or es i d) → set ys i v ≡ map form_of_entry (take (i + 1) es) ++ drop (i + 1) init
put_more es init ys i d v w lt fits h is =
    let front = map form_of_entry (take i es) in
    let long : length front ≡ i = length-map (take i es) form_of_entry ∙ omega (arith, length-take i es) in
    let parts : ys ≡ front ++ get_or init i w ∷ drop (i + 1) init = h ∙ ap (λ l. front ++ l) (drop_more init i w fits) in
    ap (λ l. set l i v) parts ∙ set_at front _ _ v i long ∙ sym (append_assoc front (v ∷ []) _)
    ∙ ap (λ l. l ++ drop (i + 1) init) (ap (λ y. front ++ y ∷ []) is ∙ sym (map_more form_of_entry es i d lt))
