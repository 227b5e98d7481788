-- What is kept before any link is added.
use Rattle.std.proofs.Common.{◌≡◌, ℕ, ◌<◌, List, [], Option, length, get_or, sym, ap, ap₂, subst, ◌∙◌, arith}
use Rattle.std.specs.Prelude.{replicate, reverse}
use Rattle.std.proofs.lemmas.List.{get_or-replicate, length-replicate}
use Rattle.links.specs.Links.{Link}
use Rattle.fabric.specs.InOrder.{InOrderOnce}
use Rattle.link_order.specs.Order.{link_cmp}
use Rattle.open_rows.specs.Rows.{Rows}
use Rattle.wire_links.specs.Rows.{AreJoined, links_of_rows}
use Rattle.wire_links.proofs.Routed.{next_within, rows_drive}
use Rattle.live_links.specs.declared.added.AddedLink.{AddedLink}
use Rattle.live_links.specs.Joined.{IsJoined, IsLinkStack, more_of, stacked}
use Rattle.live_links.specs.Opened.{rooms_of}
use Rattle.live_links.proofs.Opening.{more_given, rising_once, room_at}

-- joined rows are in step
pub joined_first : (drivers next : List (List ℕ)) (feeds : List (Option ℕ)) (outputs : List ℕ) → AreJoined drivers next feeds outputs
    → IsJoined (record { links = links_of_rows 0 drivers; outputs = outputs }) drivers next feeds
joined_first drivers next feeds outputs are = record {
  few = are.few;
  next_long = are.next_long;
  feeds_long = are.feeds_long;
  rising = are.rows.rising;
  once = λ x. rising_once (get_or next x []) (are.next_rising x);
  within = λ x w i. next_within drivers next feeds outputs are x w i;
  has_drivers = rows_drive drivers outputs;
  has_next = are.has_next;
  feeds_are = are.feeds_are;
  clean = are.clean;
}

-- what rows are opened with
pub record Begins (drivers next : List (List ℕ)) (feeds : List (Option ℕ)) (ones more outputs : List ℕ) (d n : Rows ℕ) : Type 0 where
  pub joined : AreJoined drivers next feeds outputs
  pub drivers_are : d.rows ≡ drivers
  pub next_are : n.rows ≡ next
  pub drivers_room : d.room ≡ rooms_of drivers ones
  pub next_room : n.room ≡ rooms_of next more
  pub ones_are : ones ≡ replicate (length drivers) 1
  pub more_long : length more ≡ length next

module _ (drivers next : List (List ℕ)) (feeds : List (Option ℕ)) (ones more outputs : List ℕ) (d n : Rows ℕ) (begins : Begins drivers next feeds ones more outputs d n) where
  ones_long : length ones ≡ length drivers
  ones_long = ap length begins.ones_are ∙ length-replicate (length drivers) 1

  one_each : (w : ℕ) → w < length drivers → get_or ones w 0 ≡ 1
  one_each w below = ap (λ (xs : List ℕ). get_or xs w 0) begins.ones_are ∙ get_or-replicate (length drivers) w 1 0 below

  stack_first : IsLinkStack [] d n feeds outputs
  stack_first = record {
    joined = subst (λ (rows : List (List ℕ)). IsJoined (record { links = links_of_rows 0 rows; outputs = outputs }) rows n.rows feeds) (sym begins.drivers_are)
        (subst (λ (rows : List (List ℕ)). IsJoined (record { links = links_of_rows 0 drivers; outputs = outputs }) drivers rows feeds) (sym begins.next_are)
        (joined_first drivers next feeds outputs begins.joined));
    counted = λ x. omega arith;
    roomy = λ w below.
        let at = ap (λ (room : List ℕ). get_or room w 0) begins.drivers_room ∙ room_at drivers ones w ones_long in
        let same = ap length begins.drivers_are in
        let one = one_each w (omega arith) in
        omega arith;
  }

  -- the same of what vectors hold
  pub keeps_first : (added : List AddedLink) (held : List ℕ) → added ≡ [] → held ≡ outputs → IsLinkStack (reverse added) d n feeds held
  keeps_first added held none same =
      subst (λ (xs : List AddedLink). IsLinkStack (reverse xs) d n feeds held) (sym none) (subst (λ (os : List ℕ). IsLinkStack [] d n feeds os) (sym same) stack_first)

  pub more_first : (added : List AddedLink) (held : List ℕ) → added ≡ [] → (stacked (reverse added) d n held).more ≡ more
  more_first added held none =
      ap (λ (xs : List AddedLink). (stacked (reverse xs) d n held).more) none
      ∙ (ap₂ (λ (room : List ℕ) (rows : List (List ℕ)). more_of room rows) begins.next_room begins.next_are ∙ more_given next more begins.more_long)

  pub links_first : (added : List AddedLink) (held : List ℕ) (given : List Link) → added ≡ [] → InOrderOnce link_cmp given (links_of_rows 0 drivers)
      → InOrderOnce link_cmp given (stacked (reverse added) d n held).base.links
  links_first added held given none ordered =
      subst (λ (xs : List AddedLink). InOrderOnce link_cmp given (stacked (reverse xs) d n held).base.links) (sym none)
      (subst (λ (rows : List (List ℕ)). InOrderOnce link_cmp given (links_of_rows 0 rows)) (sym begins.drivers_are) ordered)
