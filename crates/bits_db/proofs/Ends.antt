-- The connections as one is added.
use Rattle.std.proofs.Common.{◌≡◌, List, Bool, [], ◌∷◌, ◌++◌, ◌&&◌, ◌||◌, true, false, cond, refl, sym, ap, ◌∙◌, Ordering, Less, Equal, Greater}
use Rattle.std.specs.BTreeSet.{BTreeSet, contains}
use Rattle.std.specs.Cmp.Lexicographic.{slice_cmp, texts_ties}
use Rattle.std.specs.Ordering.{nat_cmp, is_eq, ordering_then}
use Rattle.std.specs.Str.{bytes_eq}
use Rattle.std.proofs.lemmas.List.Folds.{list_any-append}
use Rattle.records.specs.Database.{Fixed}
use Rattle.grammars.specs.BitsDb.{same_ends}
use Rattle.grammars.specs.RowByRow.{has_connection, with_connection}
use Rattle.bits_db.specs.KnownEnds.{Ends, ends_order, connection_of, KnowsEnds}

or_cond : (a b : Bool) → cond b true a ≡ a || (b || false)
or_cond true true = refl
or_cond true false = refl
or_cond false true = refl
or_cond false false = refl

-- a connection that is there isn't added
pub known_connection : (cs : List Fixed) (c : Fixed) → has_connection cs c ≡ true → with_connection cs c ≡ cs
known_connection cs c has = ap (λ b. cond b cs (cs ++ c ∷ [])) has

pub new_connection : (cs : List Fixed) (c : Fixed) → has_connection cs c ≡ false → with_connection cs c ≡ cs ++ c ∷ []
new_connection cs c has = ap (λ b. cond b cs (cs ++ c ∷ [])) has

-- an order by two in turn ties where both do
ties_then : (a b : Ordering) → is_eq (ordering_then a b) ≡ is_eq a && is_eq b
ties_then Less b = refl
ties_then Equal b = refl
ties_then Greater b = refl

ends_tie : (a b : Ends) → is_eq (ends_order a b) ≡ same_ends (connection_of a) (connection_of b)
ends_tie a b =
    ties_then (slice_cmp nat_cmp a.0.now b.0.now) (slice_cmp nat_cmp a.1.now b.1.now)
    ∙ ap (λ t. t && is_eq (slice_cmp nat_cmp a.1.now b.1.now)) (sym (texts_ties a.0.now b.0.now))
    ∙ ap (λ t. bytes_eq a.0.now b.0.now && t) (sym (texts_ties a.1.now b.1.now))

-- a set that gets the ends of one more connection
pub ends_with_one : (cs : List Fixed) (c : Fixed) (old new : BTreeSet Ends) (key : Ends) → c ≡ connection_of key → KnowsEnds cs old
    → ((q : Ends) → contains ends_order new q ≡ cond (is_eq (ends_order key q)) true (contains ends_order old q))
    → KnowsEnds (cs ++ c ∷ []) new
ends_with_one cs c old new key same held updated q =
    updated q
    ∙ ap (cond (is_eq (ends_order key q)) true) (held q)
    ∙ ap (λ b. cond b true (has_connection cs (connection_of q))) (ends_tie key q)
    ∙ or_cond (has_connection cs (connection_of q)) (same_ends (connection_of key) (connection_of q))
    ∙ ap (λ d. has_connection cs (connection_of q) || (same_ends d (connection_of q) || false)) (sym same)
    ∙ sym (list_any-append (λ d. same_ends d (connection_of q)) cs (c ∷ []))
