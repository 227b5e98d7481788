-- Types in byte order, each once, and databases by type.
use Rattle.std.proofs.Common.{◌≡◌, ◌≢◌, ◌⊎◌, inl, inr, ℕ, Bool, true, false, cond, List, [], ◌∷◌, ◌++◌, map, Some, None, bytes_eq, refl, sym, ap, subst, ◌∙◌}
use Rattle.std.specs.Prelude.{Result, Ok, Err, OnOk}
use Rattle.std.specs.declared.cmp.Ordering.{Ordering}
use Rattle.std.specs.declared.cmp.Ordering.TheVariants.{Less, Equal, Greater}
use Rattle.std.specs.Ordering.{match_ordering, ordering_reverse}
use Rattle.std.specs.Cmp.Lexicographic.{nat_list_cmp_total}
use Rattle.std.specs.Cmp.{tied_itself}
use Rattle.std.proofs.lemmas.Slice.Eq.{bytes_eq-Decides}
use Rattle.words.specs.Members.{In}
use Rattle.words.specs.Ordered.{put_once, in_order_once}
use Rattle.records.specs.Grid.{Grid}
use Rattle.records.specs.Database.{TileDb}
use Rattle.fabric.specs.InOrder.{IsRising}
use Rattle.fabric.specs.Wires.{name_cmp}
use Rattle.fabric.specs.Device.{TypeDb}
use Rattle.fabric_laws.proofs.Orders.{name_same}
use Rattle.fabric_laws.proofs.Members.{is_false}
use Rattle.device_names.specs.Types.{type_named, AreInNameOrder}
use Rattle.device_names.proofs.ByType.{of_name}
use Rattle.design_files.specs.Names.{types_of}

-- ---- names that are put in order

put_from : (x : List ℕ) (ys : List (List ℕ)) (z : List ℕ) → In (put_once (λ k. k) x ys) z → (x ≡ z) ⊎ In ys z
put_from x [] z i = elim i [ inl e ↦ inl e | inr j ↦ absurd j ]
put_from x (y ∷ ys) z i = go (name_cmp x y) i (put_from x ys z)
  where
    go : (o : Ordering) → In (match_ordering o (x ∷ y ∷ ys) (x ∷ ys) (y ∷ put_once (λ k. k) x ys)) z → (In (put_once (λ k. k) x ys) z → (x ≡ z) ⊎ In ys z) → (x ≡ z) ⊎ In (y ∷ ys) z
    go Less k ih = k
    go Equal k ih = elim k [ inl e ↦ inl e | inr j ↦ inr (inr j) ]
    go Greater k ih = elim k [ inl e ↦ inr (inl e) | inr j ↦ elim (ih j) [ inl e ↦ inl e | inr l ↦ inr (inr l) ] ]

put_rising : (x : List ℕ) (ys : List (List ℕ)) → IsRising name_cmp ys → IsRising name_cmp (put_once (λ k. k) x ys)
put_rising x [] r = ((λ z i. absurd i), tt)
put_rising x (y ∷ ys) r = go (name_cmp x y) refl (put_rising x ys r.1)
  where
    go : (o : Ordering) → name_cmp x y ≡ o → IsRising name_cmp (put_once (λ k. k) x ys) → IsRising name_cmp (match_ordering o (x ∷ y ∷ ys) (x ∷ ys) (y ∷ put_once (λ k. k) x ys))
    go Less e ih = ((λ z i. elim i [ inl s ↦ subst (λ w. name_cmp x w ≡ Less) s e | inr j ↦ nat_list_cmp_total.trans x y z e (r.0 z j) ]), r)
    go Equal e ih = ((λ z i. nat_list_cmp_total.congr x y z e ∙ r.0 z i), r.1)
    go Greater e ih = (
      (λ z i. elim (put_from x ys z i) [ inl s ↦ subst (λ w. name_cmp y w ≡ Less) s (nat_list_cmp_total.antisymm y x ∙ ap ordering_reverse e) | inr j ↦ r.0 z j ]),
      ih,
    )

once_rising : (xs : List (List ℕ)) → IsRising name_cmp (in_order_once (λ k. k) xs)
once_rising [] = tt
once_rising (x ∷ xs) = put_rising x (in_order_once (λ k. k) xs) (once_rising xs)

-- the types of a grid rise
pub types_rise : (grid : Grid) (kinds : List (List ℕ)) → kinds ≡ types_of grid → IsRising name_cmp kinds
types_rise grid kinds same = subst (IsRising name_cmp) (sym same) (once_rising (map (λ tile. tile.kind) grid.tiles))

-- ---- databases that are told by their names

same_bytes : (a b : List ℕ) → bytes_eq a b ≡ true → a ≡ b
same_bytes a b e = (bytes_eq-Decides a b).0 e

bytes_same : (a : List ℕ) → bytes_eq a a ≡ true
bytes_same a = (bytes_eq-Decides a a).1 refl

bytes_differ : (a b : List ℕ) → a ≢ b → bytes_eq a b ≡ false
bytes_differ a b apart = is_false (bytes_eq a b) (λ e. apart (same_bytes a b e))

never_less : (k : List ℕ) → name_cmp k k ≡ Less → ⊥
never_less k less = let tied = tied_itself nat_list_cmp_total k in let no : ⊥ = cc in no

apart : (a b : List ℕ) → name_cmp a b ≡ Less → b ≢ a
apart a b less same = never_less a (subst (λ k. name_cmp a k ≡ Less) same less)

-- a name before all others isn't found
none_before : (k : List ℕ) (types : List TypeDb) → ((z : List ℕ) → In (map (λ t. t.kind) types) z → name_cmp k z ≡ Less) → type_named types k ≡ None
none_before k [] before = refl
none_before k (t ∷ types) before =
    ap (λ b. cond b (Some t) (type_named types k)) (bytes_differ t.kind k (apart k t.kind (before t.kind (inl refl))))
    ∙ none_before k types (λ z i. before z (inr i))

named_first : (t : TypeDb) (types : List TypeDb) → type_named (t ∷ types) t.kind ≡ Some t
named_first t types = ap (λ b. cond b (Some t) (type_named types t.kind)) (bytes_same t.kind)

-- the names behind the first one of a list that rises
behind_less : (k : List ℕ) (t : TypeDb) (types : List TypeDb) → name_cmp k t.kind ≡ Less → AreInNameOrder (t ∷ types) → type_named (t ∷ types) k ≡ None
behind_less k t types less rises =
    none_before k (t ∷ types)
    (λ z i. elim i [ inl s ↦ subst (λ w. name_cmp k w ≡ Less) s less | inr j ↦ nat_list_cmp_total.trans k t.kind z less (rises.0 z j) ])

-- lists in name order in which each name is found alike are equal
by_names : (xs ys : List TypeDb) → AreInNameOrder xs → AreInNameOrder ys → ((q : List ℕ) → type_named xs q ≡ type_named ys q) → xs ≡ ys
by_names [] [] p q same = refl
by_names [] (y ∷ ys) p q same = absurd (let found = same y.kind ∙ named_first y ys in let no : ⊥ = cc in no)
by_names (x ∷ xs) [] p q same = absurd (let found = sym (same x.kind) ∙ named_first x xs in let no : ⊥ = cc in no)
by_names (x ∷ xs) (y ∷ ys) p q same = go (name_cmp x.kind y.kind) refl (by_names xs ys p.1 q.1)
  where
    heads : x.kind ≡ y.kind → x ≡ y
    heads e =
        let found : Some x ≡ Some y = sym (named_first x xs) ∙ same x.kind ∙ ap (λ k. type_named (y ∷ ys) k) e ∙ named_first y ys in
        let one : x ≡ y = cc in one

    tails : x.kind ≡ y.kind → (k : List ℕ) → type_named xs k ≡ type_named ys k
    tails e k = other (bytes_eq x.kind k) refl
      where
        other : (b : Bool) → bytes_eq x.kind k ≡ b → type_named xs k ≡ type_named ys k
        other true f =
            let here : x.kind ≡ k = same_bytes x.kind k f in
            subst (λ w. type_named xs w ≡ type_named ys w) here
            (none_before x.kind xs p.0 ∙ sym (none_before x.kind ys (λ z i. subst (λ w. name_cmp w z ≡ Less) (sym e) (q.0 z i))))
        other false f =
            let left : type_named (x ∷ xs) k ≡ type_named xs k = ap (λ b. cond b (Some x) (type_named xs k)) f in
            let right : type_named (y ∷ ys) k ≡ type_named ys k = ap (λ b. cond b (Some y) (type_named ys k)) (ap (λ w. bytes_eq w k) (sym e) ∙ f) in
            sym left ∙ same k ∙ right

    go : (o : Ordering) → name_cmp x.kind y.kind ≡ o → (((k : List ℕ) → type_named xs k ≡ type_named ys k) → xs ≡ ys) → x ∷ xs ≡ y ∷ ys
    go Less e ih = absurd (let found = sym (named_first x xs) ∙ same x.kind ∙ behind_less x.kind y ys e q in let no : ⊥ = cc in no)
    go Equal e ih =
        let kinds = name_same x.kind y.kind e in
        let one = heads kinds in
        let rest = ih (tails kinds) in
        λ i. one i ∷ rest i
    go Greater e ih = absurd (let below : name_cmp y.kind x.kind ≡ Less = nat_list_cmp_total.antisymm y.kind x.kind ∙ ap ordering_reverse e in
        let found = sym (named_first y ys) ∙ sym (same y.kind) ∙ behind_less y.kind x xs below p in let no : ⊥ = cc in no)

-- one more name at the end
pub map-push : (types : List TypeDb) (t : TypeDb) → map (λ u. u.kind) (types ++ t ∷ []) ≡ map (λ u. u.kind) types ++ t.kind ∷ []
map-push [] t = refl
map-push (u ∷ types) t = ap (λ ks. u.kind ∷ ks) (map-push types t)

found_others : (types : List TypeDb) (t : TypeDb) (q : List ℕ) → q ≢ t.kind → type_named (types ++ t ∷ []) q ≡ type_named types q
found_others [] t q other = ap (λ b. cond b (Some t) None) (bytes_differ t.kind q (λ e. other (sym e)))
found_others (u ∷ types) t q other = ap (λ o. cond (bytes_eq u.kind q) (Some u) o) (found_others types t q other)

in_push : (ks : List (List ℕ)) (k : List ℕ) → In (ks ++ k ∷ []) k
in_push [] k = inl refl
in_push (x ∷ ks) k = inr (in_push ks k)

found_last : (types : List TypeDb) (t : TypeDb) → IsRising name_cmp (map (λ u. u.kind) types ++ t.kind ∷ []) → type_named (types ++ t ∷ []) t.kind ≡ Some t
found_last [] t r = ap (λ b. cond b (Some t) None) (bytes_same t.kind)
found_last (u ∷ types) t r =
    ap (λ b. cond b (Some u) (type_named (types ++ t ∷ []) t.kind)) (bytes_differ u.kind t.kind (λ e. never_less u.kind (subst (λ k. name_cmp u.kind k ≡ Less) (sym e) (r.0 t.kind (in_push (map (λ v. v.kind) types) t.kind)))))
    ∙ found_last types t r.1

-- a database that is put among those of types before its own stands at the end
pub put_last : (old new : List TypeDb) (t : TypeDb) → IsRising name_cmp (map (λ u. u.kind) old ++ t.kind ∷ []) → AreInNameOrder new → type_named new t.kind ≡ Some t
    → ((other : List ℕ) → other ≢ t.kind → type_named new other ≡ type_named old other) → new ≡ old ++ t ∷ []
put_last old new t rises order there others = by_names new (old ++ t ∷ []) order (subst (IsRising name_cmp) (sym (map-push old t)) rises) same
  where
    same : (q : List ℕ) → type_named new q ≡ type_named (old ++ t ∷ []) q
    same q = go (bytes_eq t.kind q) refl
      where
        go : (b : Bool) → bytes_eq t.kind q ≡ b → type_named new q ≡ type_named (old ++ t ∷ []) q
        go true e = subst (λ k. type_named new k ≡ type_named (old ++ t ∷ []) k) (same_bytes t.kind q e) (there ∙ sym (found_last old t rises))
        go false e =
            let other : q ≢ t.kind = (λ s. (let wrong : true ≡ false = sym (bytes_same t.kind) ∙ ap (bytes_eq t.kind) (sym s) ∙ e in let no : ⊥ = cc in no)) in
            others q other ∙ sym (found_others old t q other)

-- the same of a call that puts it in
pub put_on_ok : {E : Type 0} (result : Result (Unit {0}) E) (old new : List TypeDb) (kind name : List ℕ) (db : TileDb) → name ≡ kind → IsRising name_cmp (map (λ u. u.kind) old ++ kind ∷ [])
    → OnOk result (type_named new name ≡ Some (of_name name db)) → OnOk result ((other : List ℕ) → other ≢ name → type_named new other ≡ type_named old other) → AreInNameOrder new
    → OnOk result (new ≡ old ++ of_name kind db ∷ [])
put_on_ok (Ok done) old new kind name db same rises there others order =
    put_last old new (of_name kind db) rises order
    (subst (λ (n : List ℕ). type_named new n ≡ Some (of_name n db)) same there)
    (λ other ne. others other (λ e. ne (e ∙ same)))
put_on_ok (Err e) old new kind name db same rises there others order = tt
