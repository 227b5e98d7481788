-- The members of an object that is read stand in byte order of their names, each name once.
use Rattle.std.proofs.Common.{◌≡◌, ℕ, Bool, true, false, ◌⊎◌, inl, inr, List, [], ◌∷◌, map, Some, None, refl, sym, ap, subst, ◌∙◌}
use Rattle.std.specs.Prelude.{if◌then◌else◌}
use Rattle.std.specs.Option.{option_and_then}
use Rattle.std.specs.Str.{is_utf8}
use Rattle.std.specs.declared.cmp.Ordering.{Ordering}
use Rattle.std.specs.declared.cmp.Ordering.TheVariants.{Less, Equal, Greater}
use Rattle.std.specs.Ordering.{ordering_reverse, match_ordering}
use Rattle.std.specs.Cmp.Lexicographic.{nat_list_cmp_total}
use Rattle.std.proofs.lemmas.Option.{same_Some}
use Rattle.json.specs.Json as json
use Rattle.json.specs.Lex.{tokens}
use Rattle.serde_json.specs.Data.{Data, null, boolean, number, string, array, object, Members, no_members, member, put}
use Rattle.serde_json.specs.Read.{number_of, of_json, of_items, of_members, max_depth, read}
use Rattle.serde_json.specs.Find.{as_object}
use Rattle.words.specs.Members.{In}
use Rattle.words.specs.Twice.{HasNoneTwice}
use Rattle.fabric.specs.Wires.{name_cmp}
use Rattle.fabric.specs.InOrder.{IsRising}
use Rattle.json_forms.specs.Values.{Member, members, object_in, reading_of}
use Rattle.cells_laws.proofs.Options.{mapped_from, then_from}

-- the names of members
abbrev pub names : Members → List (List ℕ)
names no_members = []
names (member k d ms) = k ∷ names ms

names_are : (ms : Members) → map (λ m. m.name) (members ms) ≡ names ms
names_are no_members = refl
names_are (member k d ms) = ap (λ ns. k ∷ ns) (names_are ms)

-- a name after a member's own is the new one, or another of the members
put_from : (k : List ℕ) (d : Data) (ms : Members) (x : List ℕ) → In (names (put k d ms)) x → (k ≡ x) ⊎ In (names ms) x
put_from k d no_members x i = i
put_from k d (member l e ms) x i = go (name_cmp k l) i (put_from k d ms x)
  where
    go : (o : Ordering) → In (names (match_ordering o (member k d (member l e ms)) (member l d ms) (member l e (put k d ms)))) x
        → (In (names (put k d ms)) x → (k ≡ x) ⊎ In (names ms) x) → (k ≡ x) ⊎ In (l ∷ names ms) x
    go Less j ih = j
    go Equal j ih = inr j
    go Greater j ih = elim j [ inl e ↦ inr (inl e) | inr n ↦ elim (ih n) [ inl e ↦ inl e | inr m ↦ inr (inr m) ] ]

-- a member that is put in keeps the order
put_rising : (k : List ℕ) (d : Data) (ms : Members) → IsRising name_cmp (names ms) → IsRising name_cmp (names (put k d ms))
put_rising k d no_members r = ((λ y i. absurd i), tt)
put_rising k d (member l e ms) r = go (name_cmp k l) refl (put_rising k d ms r.1)
  where
    later : name_cmp k l ≡ Greater → (y : List ℕ) → (k ≡ y) ⊎ In (names ms) y → name_cmp l y ≡ Less
    later h y i = elim i [
      | inl same ↦ subst (λ z. name_cmp l z ≡ Less) same (nat_list_cmp_total.antisymm l k ∙ ap ordering_reverse h)
      | inr j ↦ r.0 y j
    ]

    go : (o : Ordering) → name_cmp k l ≡ o → IsRising name_cmp (names (put k d ms))
        → IsRising name_cmp (names (match_ordering o (member k d (member l e ms)) (member l d ms) (member l e (put k d ms))))
    go Less h ih = ((λ y i. elim i [ inl same ↦ subst (λ z. name_cmp k z ≡ Less) same h | inr j ↦ nat_list_cmp_total.trans k l y h (r.0 y j) ]), r)
    go Equal h ih = r
    go Greater h ih = ((λ y i. later h y (put_from k d ms y i)), ih)

-- so do members that are put in one after another
members_rising : (js : json.Members) (found out : Members) → of_members js found ≡ Some out → IsRising name_cmp (names found) → IsRising name_cmp (names out)
members_rising json.no_members found out h r = let same : found ≡ out = cc in subst (λ ms. IsRising name_cmp (names ms)) same r
members_rising (json.member k j js) found out h r =
    let d = then_from (λ d. of_members js (put k d found)) (of_json j) out h in
    members_rising js (put k d.0 found) out d.1.1 (put_rising k d.0 found r)

no_object : (e d : Data) (ms : Members) → e ≡ d → as_object d ≡ Some ms → as_object e ≡ None → ⊥
no_object e d ms same a n = let two : None ≡ Some ms = sym n ∙ ap as_object same ∙ a in cc

-- an object that a reading gives
object_rising : (j : json.Json) (d : Data) (ms : Members) → of_json j ≡ Some d → as_object d ≡ Some ms → IsRising name_cmp (names ms)
object_rising json.null d ms h a = let same : null ≡ d = cc in absurd (no_object null d ms same a refl)
object_rising (json.boolean b) d ms h a = let same : boolean b ≡ d = cc in absurd (no_object (boolean b) d ms same a refl)
object_rising (json.number s) d ms h a = let r = mapped_from number (number_of s) d h in absurd (no_object (number r.0) d ms r.1.1 a refl)
object_rising (json.string s) d ms h a = let same : string s ≡ d = cc in absurd (no_object (string s) d ms same a refl)
object_rising (json.array js) d ms h a = let r = mapped_from array (of_items js) d h in absurd (no_object (array r.0) d ms r.1.1 a refl)
object_rising (json.object js) d ms h a =
    let r = mapped_from object (of_members js no_members) d h in
    let same : r.0 ≡ ms = same_Some r.0 ms (ap as_object r.1.1 ∙ a) in
    subst (λ out. IsRising name_cmp (names out)) same (members_rising js no_members r.0 r.1.0 tt)

-- the members of an object that bytes are read as
read_rising : (bytes : List ℕ) (d : Data) (ms : Members) → read bytes ≡ Some d → as_object d ≡ Some ms → IsRising name_cmp (names ms)
read_rising bytes d ms h a =
    let j = then_from of_json (option_and_then (λ p. json.if_last p.0 p.1) (json.value max_depth (tokens bytes))) d h in
    object_rising j.0 d ms j.1.1 a

pub reading_rising : (bytes : List ℕ) (d : Data) → reading_of bytes ≡ Some d → (ms : List Member) → object_in d ≡ Some ms → IsRising name_cmp (map (λ m. m.name) ms)
unfolding reading_of
reading_rising bytes d h ms a = go (is_utf8 bytes) h
  where
    go : (b : Bool) → (if b then read bytes else None) ≡ Some d → IsRising name_cmp (map (λ m. m.name) ms)
    go false k = absurd (let no : ⊥ = cc in no)
    go true k =
        let r = mapped_from members (as_object d) ms a in
        subst (λ (ns : List Member). IsRising name_cmp (map (λ m. m.name) ns)) r.1.1 (subst (IsRising name_cmp) (sym (names_are r.0)) (read_rising bytes d r.0 k r.1.0))

-- a name that comes after another one is another one
pub rising_once : (names : List (List ℕ)) → IsRising name_cmp names → HasNoneTwice names
rising_once [] r = tt
rising_once (x ∷ xs) r = ((λ i. (let before = r.0 x i in let turned : Less ≡ ordering_reverse Less = sym before ∙ nat_list_cmp_total.antisymm x x ∙ ap ordering_reverse before in cc)), rising_once xs r.1)
