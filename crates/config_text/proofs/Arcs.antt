-- Arcs that are put in order, from the last to the first.
use Rattle.std.proofs.Common.{◌≡◌, ℕ, List, [], ◌∷◌, ◌++◌, true, refl, sym, ap, ◌∙◌}
use Rattle.std.specs.declared.cmp.Ordering.{Ordering}
use Rattle.std.specs.declared.cmp.Ordering.TheVariants.{Less, Equal, Greater}
use Rattle.std.specs.Ordering.{nat_cmp, ordering_then, match_ordering, is_eq}
use Rattle.std.specs.BTreeMap.{insert_entry}
use Rattle.std.specs.Cmp.Lexicographic.{slice_cmp, texts_ties, same_text}
use Rattle.words.specs.Ordered.{put_once, in_order_once}
use Rattle.texts.specs.Names.{is_name}
use Rattle.records.specs.Config.{ArcLine}
use Rattle.config_grammar.specs.ConfigText.{arc_key}
use Rattle.config_text.specs.Entries.{arc_at, arcs_at, AreSinks}
use Rattle.config_text.proofs.Keys.{arc_order}

-- the order of pairs of names
abbrev pub pair_cmp : List ℕ × List ℕ → List ℕ × List ℕ → Ordering
pair_cmp p q = ordering_then (slice_cmp nat_cmp p.0 q.0) (slice_cmp nat_cmp p.1 q.1)

-- ---- names that are equal in the order are equal

name_same : (s t : List ℕ) → slice_cmp nat_cmp s t ≡ Equal → s ≡ t
name_same s t h = same_text s t (sym (texts_ties s t ∙ ap is_eq h))

first_equal : (o p : Ordering) → ordering_then o p ≡ Equal → o ≡ Equal
first_equal Less p h = h
first_equal Equal p h = refl
first_equal Greater p h = h

second_equal : (o p : Ordering) → ordering_then o p ≡ Equal → p ≡ Equal
second_equal Less p h = absurd (let no : ⊥ = cc in no)
second_equal Equal p h = h
second_equal Greater p h = absurd (let no : ⊥ = cc in no)

arc_same : (s s2 a a2 : List ℕ) (n : ℕ) → s2 ≡ s → a2 ≡ a → ◌≡◌ {A = ArcLine} (record { sink = s2; source = a2; line = n }) (record { sink = s; source = a; line = n })
arc_same s s2 a a2 n p q =
    ap (λ (x : List ℕ). let r : ArcLine = record { sink = x; source = a2; line = n } in r) p ∙ ap (λ (x : List ℕ). let r : ArcLine = record { sink = s; source = x; line = n } in r) q

-- ---- one arc more

-- an arc goes to its place among others, and takes that of one with its sink and source
pub one_more : (sink source : List ℕ) (line : ℕ) → is_name sink ≡ true → (es : List ((List ℕ × List ℕ) × ℕ)) → AreSinks es
    → arcs_at (insert_entry pair_cmp es (sink, source) line) ≡ put_once arc_key (arc_at ((sink, source), line)) (arcs_at es)
one_more sink source line name [] h = refl
one_more sink source line name (e ∷ es) h =
    go (pair_cmp (sink, source) e.0) refl (one_more sink source line name es h.1)
    ∙ ap (λ o. match_ordering o (new ∷ arc_at e ∷ arcs_at es) (new ∷ arcs_at es) (arc_at e ∷ put_once arc_key new (arcs_at es))) (sym (arc_order sink e.0.0 source e.0.1 name h.0))
  where
    new : ArcLine
    new = arc_at ((sink, source), line)

    go : (o : Ordering) → pair_cmp (sink, source) e.0 ≡ o → arcs_at (insert_entry pair_cmp es (sink, source) line) ≡ put_once arc_key (arc_at ((sink, source), line)) (arcs_at es)
        → arcs_at (match_ordering o (((sink, source), line) ∷ e ∷ es) ((e.0, line) ∷ es) (e ∷ insert_entry pair_cmp es (sink, source) line))
        ≡ match_ordering o (arc_at ((sink, source), line) ∷ arc_at e ∷ arcs_at es) (arc_at ((sink, source), line) ∷ arcs_at es) (arc_at e ∷ put_once arc_key (arc_at ((sink, source), line)) (arcs_at es))
    go Less same ih = refl
    go Equal same ih =
        let sinks = name_same sink e.0.0 (first_equal (slice_cmp nat_cmp sink e.0.0) (slice_cmp nat_cmp source e.0.1) same) in
        let sources = name_same source e.0.1 (second_equal (slice_cmp nat_cmp sink e.0.0) (slice_cmp nat_cmp source e.0.1) same) in
        ap (λ (a : ArcLine). a ∷ arcs_at es) (arc_same sink e.0.0 source e.0.1 line (sym sinks) (sym sources))
    go Greater same ih = ap (λ arcs. arc_at e ∷ arcs) ih

-- the sinks stay names
pub sinks_stay : (sink source : List ℕ) (line : ℕ) → is_name sink ≡ true → (es : List ((List ℕ × List ℕ) × ℕ)) → AreSinks es → AreSinks (insert_entry pair_cmp es (sink, source) line)
sinks_stay sink source line name [] h = (name, tt)
sinks_stay sink source line name (e ∷ es) h = go (pair_cmp (sink, source) e.0) (sinks_stay sink source line name es h.1)
  where
    go : (o : Ordering) → AreSinks (insert_entry pair_cmp es (sink, source) line)
        → AreSinks (match_ordering o (((sink, source), line) ∷ e ∷ es) ((e.0, line) ∷ es) (e ∷ insert_entry pair_cmp es (sink, source) line))
    go Less ih = (name, h)
    go Equal ih = h
    go Greater ih = (h.0, ih)

-- ---- all arcs

-- arcs put in their places among others, from the last to the first
abbrev pub put_all : List ArcLine → List ArcLine → List ArcLine
put_all [] done = done
put_all (a ∷ arcs) done = put_once arc_key a (put_all arcs done)

pub put_last : (front : List ArcLine) (a : ArcLine) (done : List ArcLine) → put_all (front ++ a ∷ []) done ≡ put_all front (put_once arc_key a done)
put_last [] a done = refl
put_last (b ∷ front) a done = ap (put_once arc_key b) (put_last front a done)

pub put_all_once : (arcs : List ArcLine) → put_all arcs [] ≡ in_order_once arc_key arcs
put_all_once [] = refl
put_all_once (a ∷ arcs) = ap (put_once arc_key a) (put_all_once arcs)
