-- Items that are read as they were written.
use Rattle.std.proofs.Common.{◌≡◌, ℕ, ◌+◌, ◌^◌, pos, ℤ, FitsSigned, List, [], ◌∷◌, ◌++◌, length, codes, Bool, true, cond, Option, Some, None, is_some, Result, Ok, refl, sym, ap, ◌∙◌, arith}
use Rattle.std.specs.Int.{w64}
use Rattle.std.specs.List.{All}
use Rattle.std.proofs.lemmas.List.{append_assoc, append-nil, length-append}
use Rattle.item_model.specs.declared.decl.ItemKind.{ItemKind}
use Rattle.item_model.specs.declared.decl.ItemKind.TheVariants.{Sensor, Derived, State}
use Rattle.item_model.specs.declared.decl.ItemDecl.{ItemDecl}
use Rattle.rt_base.specs.Names.{is_name, name_of}
use Rattle.name_table.specs.Places.{place_in}
use Rattle.serde_json.specs.Find.{get}
use Rattle.serde_json.specs.View.{items_of}
use Rattle.step_script.specs.Scenarios.{HasValidity}
use Rattle.scenario_forms.specs.declared.error.Place.TheVariants as places
use Rattle.scenario_forms.specs.declared.error.ItemMember.TheVariants as members
use Rattle.scenario_forms.specs.declared.error.FormError.{FormError}
use Rattle.scenario_forms.specs.Reading.{◌>>=◌, needed, member_at, fold_at}
use Rattle.scenario_forms.specs.Fields.{Places, whole, integer, new_name, unless_placed, no_others, formed_unit}
use Rattle.scenario_forms.specs.Items.{is_item_member, kind_form, item_kind, item_at, with_item, item_step}
use Rattle.scenario_writer.specs.Canonical.{item_data, items_data, word}
use Rattle.scenario_writer.specs.Canonical as written
use Rattle.law_texts.proofs.Parts.{then, found_member, found_or, head, tail, unfold_step, unfold_end, whole_back, integer_back}
use Rattle.law_texts.proofs.Names.{AreFresh, rest_fresh}
use Rattle.law_texts.specs.ReadBack.{table}

-- a new name is taken as it is
pub new_back : (p : Places) (name : List ℕ) → is_name name ≡ true → p name ≡ None → unless_placed p name ≡ Some name
new_back p name plain new =
    ap (λ (o : Option ℕ). cond (is_some o) None (name_of name)) new ∙ ap (λ (b : Bool). cond b (Some name) None) plain

only_members : (name : List ℕ) (kind : ItemKind) (initial : ℤ)
    → no_others is_item_member (item_data name (record { kind = kind; initial = initial })) ≡ true
only_members name (Sensor validity) initial = refl
only_members name other initial = refl

gets_name : (name : List ℕ) (kind : ItemKind) (initial : ℤ)
    → get (codes "name") (item_data name (record { kind = kind; initial = initial })) ≡ Some (word name)
gets_name name (Sensor validity) initial = refl
gets_name name other initial = refl

gets_value : (name : List ℕ) (kind : ItemKind) (initial : ℤ)
    → get (codes "value") (item_data name (record { kind = kind; initial = initial })) ≡ Some (written.integer initial)
gets_value name (Sensor validity) initial = refl
gets_value name other initial = refl

-- the kind with its validity, before what comes after it
kind_part : (i : ℕ) (name : List ℕ) (kind : ItemKind) (initial : ℤ) → HasValidity kind
    → (f : ItemKind → Result (List ℕ × ItemDecl) FormError)
    → (member_at (places.ItemMember i members.Kind) kind_form (codes "kind") (item_data name
    (record { kind = kind; initial = initial }))
    >>= λ word. item_kind (places.ItemMember i members.Validity) word (item_data name
    (record { kind = kind; initial = initial })) >>= f)
    ≡ f kind
unfolding item_kind
kind_part i name (Sensor validity) initial h f =
    then _ _ _ (found_member (places.ItemMember i members.Kind) kind_form (codes "kind") _ _ _ refl refl)
    ∙ then _ (Sensor validity) f (then _ validity _ (found_member (places.ItemMember i members.Validity) (whole 1
    (2 ^ 40))
    (codes "validity") _ _ validity refl (whole_back 1 (2 ^ 40) validity h.0 h.1)))
kind_part i name (Derived validity) initial h f =
    then _ _ _ (found_member (places.ItemMember i members.Kind) kind_form (codes "kind") _ _ _ refl refl)
    ∙ then _ (Derived validity) f (then _ validity _ (found_member (places.ItemMember i members.Validity) (whole 1
    (2 ^ 40))
    (codes "validity") _ _ validity refl (whole_back 1 (2 ^ 40) validity h.0 h.1)))
kind_part i name State initial h f =
    then _ _ _ (found_member (places.ItemMember i members.Kind) kind_form (codes "kind") _ _ _ refl refl)
    ∙ then _ State f refl

item_back : (p : Places) (i : ℕ) (name : List ℕ) (decl : ItemDecl) → is_name name ≡ true → p name ≡ None
    → HasValidity decl.kind
    → FitsSigned w64 decl.initial → item_at p i (item_data name decl) ≡ Ok (name, decl)
unfolding item_at
item_back p i name decl plain new valid fits =
    then _ formed_unit _ (ap (λ (b : Bool). needed (places.Item i) (cond b (Some formed_unit) None))
    (only_members name decl.kind decl.initial))
    ∙ then _ name _ (found_member (places.ItemMember i members.Name) (new_name p) (codes "name") (item_data name decl)
    (word name) name
    (gets_name name decl.kind decl.initial) (new_back p name plain new))
    ∙ kind_part i name decl.kind decl.initial valid _
    ∙ then _ decl.initial _ (found_or (pos 0) (places.ItemMember i members.Value) integer (codes "value")
    (item_data name decl)
    (written.integer decl.initial) decl.initial (gets_value name decl.kind decl.initial)
    (integer_back decl.initial fits))

one_item : (name : List ℕ) (d : ItemDecl) (ns : List (List ℕ)) (ds : List ItemDecl) → is_name name ≡ true
    → place_in ns name ≡ None → HasValidity d.kind → FitsSigned w64 d.initial
    → item_step (table ns ds) (item_data name d) ≡ Ok (with_item (table ns ds) (name, d))
unfolding item_step
one_item name d ns ds plain new valid fits =
    then _ (name, d) _ (item_back (place_in ns) (length ns) name d plain new valid fits)

pub items_from : (names : List (List ℕ)) (decls : List ItemDecl) (ns : List (List ℕ)) (ds : List ItemDecl)
    → length names ≡ length decls → AreFresh ns names → All (λ d. HasValidity d.kind) decls
    → All (λ d. FitsSigned w64 d.initial) decls
    → fold_at item_step (table ns ds) (items_of (items_data names decls)) ≡ Ok (table (ns ++ names) (ds ++ decls))
items_from [] [] ns ds same fresh valid fits =
    unfold_end item_step _ ∙ ap (λ (ms : List (List ℕ)). Ok (table ms ds)) (sym (append-nil ns))
    ∙ ap (λ (es : List ItemDecl). Ok (table (ns ++ []) es)) (sym (append-nil ds))
items_from [] (d ∷ decls) ns ds same fresh valid fits = absurd (omega arith)
items_from (name ∷ names) [] ns ds same fresh valid fits = absurd (omega arith)
items_from (name ∷ names) (d ∷ decls) ns ds same fresh valid fits =
    let first : HasValidity d.kind = head (λ e. HasValidity e.kind) d decls valid in
    let others : All (λ e. HasValidity e.kind) decls = tail (λ e. HasValidity e.kind) d decls valid in
    let fit : FitsSigned w64 d.initial = head (λ e. FitsSigned w64 e.initial) d decls fits in
    let fit_others : All (λ e. FitsSigned w64 e.initial) decls = tail (λ e. FitsSigned w64 e.initial) d decls fits in
    unfold_step item_step (table ns ds) (with_item (table ns ds) (name, d)) (item_data name d)
    (items_data names decls) _
    (one_item name d ns ds (fresh.plain 0 (omega arith)) (fresh.new 0 (omega arith)) first fit)
    (items_from names decls (ns ++ name ∷ []) (ds ++ d ∷ []) (omega arith) (rest_fresh ns name names fresh) others
    fit_others
    ∙ ap (λ (ms : List (List ℕ)). Ok (table ms ((ds ++ d ∷ []) ++ decls))) (append_assoc ns (name ∷ []) names)
    ∙ ap (λ (es : List ItemDecl). Ok (table (ns ++ name ∷ names) es)) (append_assoc ds (d ∷ []) decls))
