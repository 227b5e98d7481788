-- The elements of a list that is read have the form that is asked, and each passes the judge behind those before it.
use Rattle.std.proofs.Common.{◌≡◌, ℕ, inl, inr, List, [], ◌∷◌, ◌++◌, length, filter_map, Option, Some, None, option_map, refl, sym, ap, subst, ◌∙◌}
use Rattle.std.specs.Prelude.{Ok}
use Rattle.std.specs.List.{cons_option}
use Rattle.std.specs.Option.{ok_or}
use Rattle.std.proofs.lemmas.List.Elements.{filter_map-append}
use Rattle.serde_json.specs.Data.{Data}
use Rattle.serde_json.specs.Find.{get}
use Rattle.words.specs.Members.{In}
use Rattle.words.specs.Firsts.{first_fault_after, first_fault}
use Rattle.json_forms.specs.Faults.{FormFault, BadShape}
use Rattle.json_forms.specs.Each.{each}
use Rattle.json_forms.specs.Values.{list_in, member_in}
use Rattle.json_forms.specs.Parts.{list_of}
use Rattle.json_forms.specs.Lists.{Verdict, Fits, Misfits, Exceeds, verdict_fault, element_key, element_verdict, element_fault, elements_read, list_read}
use Rattle.fabric_laws.proofs.Members.{in_filter_map_from}
use Rattle.cells_laws.proofs.Options.{or_none, none_or, mapped_from, then_from}
use Rattle.formed_laws.proofs.Results.{both, no_fault}

-- the fault of a value behind others
abbrev pub judged : {Y : Type 0} → (List Y → Y → Verdict) → List Y → Y → Option FormFault
judged judge before y = verdict_fault [] (judge before y)

fits_by : (key : List ℕ) (v : Verdict) → verdict_fault key v ≡ None → v ≡ Fits
fits_by key Fits h = refl
fits_by key Misfits h = absurd (let no : ⊥ = cc in no)
fits_by key (Exceeds limit) h = absurd (let no : ⊥ = cc in no)

module _ {Y : Type 0} (name : List ℕ) (form : Data → Option Y) (judge : List Y → Y → Verdict) where
  judged_after : (before ds : List Data) → first_fault_after (element_fault name form judge) before ds ≡ None
      → first_fault_after (judged judge) (filter_map form before) (filter_map form ds) ≡ None
  judged_after before [] h = refl
  judged_after before (d ∷ ds) h =
      let parts = or_none (element_fault name form judge before d) (first_fault_after (element_fault name form judge) (before ++ d ∷ []) ds) h in
      go (form d) refl parts.0 (judged_after (before ++ d ∷ []) ds parts.1)
    where
      go : (o : Option Y) → form d ≡ o → verdict_fault (element_key name (length before)) (element_verdict judge (filter_map form before) o) ≡ None
          → first_fault_after (judged judge) (filter_map form (before ++ d ∷ [])) (filter_map form ds) ≡ None
          → first_fault_after (judged judge) (filter_map form before) (cons_option o (filter_map form ds)) ≡ None
      go None e k later = absurd (let no : ⊥ = cc in no)
      go (Some y) e k later =
          let fits = fits_by (element_key name (length before)) (judge (filter_map form before) y) k in
          let grown : filter_map form (before ++ d ∷ []) ≡ filter_map form before ++ y ∷ [] =
          filter_map-append form before (d ∷ []) ∙ ap (λ o. filter_map form before ++ cons_option o []) e in
          none_or (judged judge (filter_map form before) y) (first_fault_after (judged judge) (filter_map form before ++ y ∷ []) (filter_map form ds))
          (ap (verdict_fault []) fits) (subst (λ front. first_fault_after (judged judge) front (filter_map form ds) ≡ None) grown later)

  -- the values that a list of elements is read as
  elements_judged : (ds : List Data) (ys : List Y) → elements_read name form judge ds ≡ Ok ys
      → (first_fault (judged judge) ys ≡ None) × ((y : Y) → In ys y → (d : Data) × (form d ≡ Some y))
  unfolding elements_read
  elements_judged ds ys h =
      let n = no_fault (first_fault (element_fault name form judge) ds) (filter_map form ds) ys h in (
        subst (λ zs. first_fault (judged judge) zs ≡ None) n.1 (judged_after [] ds n.0),
        (λ y i. (let r = in_filter_map_from form ds y (subst (λ zs. In zs y) (sym n.1) i) in (r.0, r.2))),
      )

  pub list_judged : (d : Data) (ys : List Y) → list_read name form judge d ≡ Ok ys
      → (first_fault (judged judge) ys ≡ None) × ((y : Y) → In ys y → (e : Data) × (form e ≡ Some y))
  list_judged d ys h =
      let r = both (ok_or (member_in name list_in d) (BadShape name)) (elements_read name form judge) ys h in
      elements_judged r.0 ys r.1.1

-- each of some values is that of an element
pub of_each : {X Y : Type 0} (f : X → Option Y) (xs : List X) (ys : List Y) → each f xs ≡ Some ys → (y : Y) → In ys y → (x : X) × (f x ≡ Some y)
of_each f [] [] h y i = absurd i
of_each f [] (z ∷ zs) h y i = absurd (let no : ⊥ = cc in no)
of_each {X} {Y} f (x ∷ xs) ys h y i =
    let a = then_from (λ (v : Y). option_map (λ vs. v ∷ vs) (each f xs)) (f x) ys h in
    let b = mapped_from (λ (vs : List Y). a.0 ∷ vs) (each f xs) ys a.1.1 in
    let k : In (a.0 ∷ b.0) y = subst (λ zs. In zs y) (sym b.1.1) i in
    elim k [ inl e ↦ (x, a.1.0 ∙ ap (λ z. Some z) e) | inr j ↦ of_each f xs b.0 b.1.0 y j ]

pub of_list : {Y : Type 0} (f : Data → Option Y) (name : List ℕ) (d : Data) (ys : List Y) → member_in name (list_of f) d ≡ Some ys → (y : Y) → In ys y → (e : Data) × (f e ≡ Some y)
of_list f name d ys h y i =
    let m = then_from (list_of f) (get name d) ys h in
    let l = then_from (each f) (list_in m.0) ys m.1.1 in
    of_each f l.0 ys l.1.1 y i
