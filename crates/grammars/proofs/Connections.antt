-- Fixed connections, each once.
use Rattle.std.proofs.Common.{◌≡◌, ℕ, List, [], ◌∷◌, ◌++◌, Bool, true, false, not, cond, ◌&&◌, ◌||◌, filter, refl, sym, ap, ◌∙◌}
use Rattle.std.proofs.lemmas.List.{append-nil}
use Rattle.std.specs.Str.{bytes_eq}
use Rattle.std.specs.Cmp.Lexicographic.{same_text}
use Rattle.std.proofs.lemmas.List.Elements.{filter-append}
use Rattle.records.specs.Database.{Fixed}
use Rattle.grammars.specs.BitsDb.{same_ends, each_once}
use Rattle.grammars.specs.RowByRow.{has_connection, with_connection}

left_true : (a b : Bool) → a && b ≡ true → a ≡ true
left_true true b h = refl
left_true false b h = absurd (let no : ⊥ = cc in no)

right_true : (a b : Bool) → a && b ≡ true → b ≡ true
right_true true b h = h
right_true false b h = absurd (let no : ⊥ = cc in no)

-- connections with the same ends are one
same_ends_same : (a b : Fixed) → same_ends a b ≡ true → a ≡ b
same_ends_same a b h =
    let sinks = same_text a.sink b.sink (sym (left_true (bytes_eq a.sink b.sink) (bytes_eq a.source b.source) h)) in
    let sources = same_text a.source b.source (sym (right_true (bytes_eq a.sink b.sink) (bytes_eq a.source b.source) h)) in
    ap (λ (s : List ℕ). let f : Fixed = record { sink = s; source = a.source } in f) sinks
    ∙ ap (λ (s : List ℕ). let f : Fixed = record { sink = b.sink; source = s } in f) sources

-- the connections with other ends than c
abbrev pub others : Fixed → List Fixed → List Fixed
others c ds = filter (λ d. not (same_ends c d)) ds

has_others_at : (c e d : Fixed) (ds : List Fixed) (same : Bool) → same_ends c d ≡ same → same_ends c e ≡ false
    → has_connection (others c ds) e ≡ has_connection ds e
    → has_connection (cond (not same) (d ∷ others c ds) (others c ds)) e ≡ (same_ends d e || has_connection ds e)
has_others_at c e d ds true same other ih =
    ih ∙ ap (λ b. b || has_connection ds e) (sym (ap (λ f. same_ends f e) (sym (same_ends_same c d same)) ∙ other))
has_others_at c e d ds false same other ih = ap (λ b. same_ends d e || b) ih

-- leaving out another connection changes nothing for this one
has_others : (c e : Fixed) (ds : List Fixed) → same_ends c e ≡ false → has_connection (others c ds) e ≡ has_connection ds e
has_others c e [] other = refl
has_others c e (d ∷ ds) other = has_others_at c e d ds (same_ends c d) refl other (has_others c e ds other)

left_out_at : (c d : Fixed) (same : Bool) → same_ends c d ≡ same → others c (d ∷ []) ≡ cond same [] (d ∷ [])
left_out_at c d true same = rw same refl
left_out_at c d false same = rw same refl

one_more_at : (c d : Fixed) (ds : List Fixed) (same has : Bool) → same_ends c d ≡ same → has_connection ds d ≡ has
    → c ∷ others c (cond has ds (ds ++ d ∷ [])) ≡ cond (same || has_connection (others c ds) d) (c ∷ others c ds) ((c ∷ others c ds) ++ d ∷ [])
one_more_at c d ds true true same has = refl
one_more_at c d ds true false same has =
    ap (λ ds. c ∷ ds) (filter-append (λ e. not (same_ends c e)) ds (d ∷ []) ∙ ap (λ more. others c ds ++ more) (left_out_at c d true same) ∙ append-nil (others c ds))
one_more_at c d ds false true same has =
    ap (λ b. cond b (c ∷ others c ds) ((c ∷ others c ds) ++ d ∷ [])) (sym (has_others c d ds same ∙ has))
one_more_at c d ds false false same has =
    ap (λ ds. c ∷ ds) (filter-append (λ e. not (same_ends c e)) ds (d ∷ []) ∙ ap (λ more. others c ds ++ more) (left_out_at c d false same))
    ∙ ap (λ b. cond b (c ∷ others c ds) ((c ∷ others c ds) ++ d ∷ [])) (sym (has_others c d ds same ∙ has))

-- each connection once, with one more at the end
pub one_more_connection : (cs : List Fixed) (d : Fixed) → each_once (cs ++ d ∷ []) ≡ with_connection (each_once cs) d
one_more_connection [] d = refl
one_more_connection (c ∷ cs) d =
    ap (λ ds. c ∷ filter (λ e. not (same_ends c e)) ds) (one_more_connection cs d)
    ∙ one_more_at c d (each_once cs) (same_ends c d) (has_connection (each_once cs) d) refl refl
