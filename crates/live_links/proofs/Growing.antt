-- A link is put into rows, and taken back.
use Rattle.std.proofs.Common.{◌≡◌, ℕ, ◌<◌, List, [], ◌∷◌, ◌++◌, Option, Some, None, length, get_or, set, Result, Ok, Err, refl, sym, ap, ap₂, subst, ◌∙◌, arith}
use Rattle.std.specs.Prelude.{OnErr}
use Rattle.std.proofs.lemmas.List.{length-set, length_push}
use Rattle.links.specs.Links.{Link}
use Rattle.open_rows.specs.Rows.{Rows, pushed}
use Rattle.wire_feeds.specs.Rows.{AreRowsWithin}
use Rattle.wire_feeds.specs.Walks.{Walk}
use Rattle.live_links.specs.declared.added.AddedLink.{AddedLink}
use Rattle.live_links.specs.Feeding.{cleared, waiting}
use Rattle.live_links.specs.Joined.{HasGrown, grown_rows, shrunk_rows}
use Rattle.live_links.proofs.Clearing.{cleared_one}
use Rattle.live_links.proofs.Pushing.{popped_pushed, pushed_row}

-- what holds, holds where a call fails
pub on_err : {T E : Type 0} (r : Result T E) (P : Type 0) → P → OnErr r P
on_err (Ok x) P p = tt
on_err (Err e) P p = p

-- rows with one room are alike where the rows are
pub rows_same : (r s : Rows ℕ) → r.rows ≡ s.rows → r.room ≡ s.room → r ≡ s
rows_same r s a b = let f : List (List ℕ) → List ℕ → Rows ℕ = λ x y. record { rows = x; room = y } in ap₂ f a b

-- what was put into rows is taken back
pub shrunk_grown : (r now back : Rows ℕ) (k v at : ℕ) → k < length r.rows → now ≡ grown_rows r k v → back ≡ shrunk_rows now at → at ≡ k → back ≡ r
shrunk_grown r now back k v at below grew shrank is =
    shrank ∙ ap (λ (n : ℕ). shrunk_rows now n) is ∙ (ap (λ (z : Rows ℕ). shrunk_rows z k) grew ∙ rows_same (shrunk_rows (grown_rows r k v) k) r (popped_pushed r.rows k v below) refl)

pub grown_filled : (r now : Rows ℕ) (k v at : ℕ) → k < length r.rows → now ≡ grown_rows r k v → at ≡ k → 0 < length (get_or now.rows at [])
grown_filled r now k v at below grew is =
    let row = ap length (ap (λ (z : Rows ℕ). get_or z.rows at []) grew ∙ (ap (λ z. get_or (pushed r.rows k v) z []) is ∙ pushed_row r.rows k v below)) in
    let long = length_push (get_or r.rows k []) v in
    omega arith

-- the feeds that were given are cleared
pub cleared_first : (feeds put now : List (Option ℕ)) (first fed : List ℕ) (w feed : ℕ) → get_or feeds w None ≡ None → first ≡ w ∷ [] → put ≡ set feeds w (Some feed)
    → cleared fed now ≡ cleared first put → cleared fed now ≡ feeds
cleared_first feeds put now first fed w feed none first_is put_is undo =
    undo ∙ (ap (λ (ws : List ℕ). cleared ws put) first_is ∙ (ap (λ (fs : List (Option ℕ)). set fs w None) put_is ∙ cleared_one feeds w feed none))

pub grown_by : (next put_next : Rows ℕ) (feeds put now : List (Option ℕ)) (l : Link) (feed : ℕ) (first : List ℕ) (a : AddedLink)
    → get_or feeds l.sink None ≡ None → a.link ≡ l → first ≡ l.sink ∷ [] → put_next ≡ grown_rows next l.source l.sink → put ≡ set feeds l.sink (Some feed) → length now ≡ length put
    → cleared a.fed.items now ≡ cleared first put
    → ((outputs : List ℕ) → Walk put_next.rows outputs (length put_next.rows) put (waiting feed first) → Walk put_next.rows outputs (length put_next.rows) now [])
    → HasGrown next feeds l feed now a
grown_by next put_next feeds put now l feed first a none link first_is next_is put_is long undo walk = record {
  link = link;
  undo = cleared_first feeds put now first a.fed.items l.sink feed none first_is put_is undo;
  long = long ∙ (ap length put_is ∙ length-set feeds l.sink (Some feed));
  walk = λ outputs w.
      subst (λ (r : Rows ℕ). Walk r.rows outputs (length r.rows) now []) next_is
      (walk outputs
      (subst (λ (r : Rows ℕ). Walk r.rows outputs (length r.rows) put (waiting feed first)) (sym next_is)
      (subst (λ (fs : List (Option ℕ)). Walk (pushed next.rows l.source l.sink) outputs (length (pushed next.rows l.source l.sink)) fs (waiting feed first)) (sym put_is)
      (subst (λ (ws : List ℕ). Walk (pushed next.rows l.source l.sink) outputs (length (pushed next.rows l.source l.sink)) (set feeds l.sink (Some feed)) (waiting feed ws)) (sym first_is) w))));
}

-- rows with a link are long enough
pub put_within : (next put_next : Rows ℕ) (l : Link) → put_next ≡ grown_rows next l.source l.sink → AreRowsWithin (pushed next.rows l.source l.sink) → AreRowsWithin put_next.rows
put_within next put_next l is within = subst (λ (r : Rows ℕ). AreRowsWithin r.rows) (sym is) within

pub put_long : (next put_next : Rows ℕ) (feeds put : List (Option ℕ)) (l : Link) (feed : ℕ) → put_next ≡ grown_rows next l.source l.sink → put ≡ set feeds l.sink (Some feed)
    → length feeds ≡ length next.rows → length put ≡ length put_next.rows
put_long next put_next feeds put l feed next_is put_is long =
    ap length put_is ∙ (length-set feeds l.sink (Some feed) ∙ (long ∙ (sym (length-set next.rows l.source (get_or next.rows l.source [] ++ l.sink ∷ [])) ∙ sym (ap (λ (r : Rows ℕ). length r.rows) next_is))))
