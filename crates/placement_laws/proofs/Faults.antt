-- What speaks against a move is decided and one thing.
use Rattle.std.proofs.Common.{◌≡◌, Bool, true, false, ◌⊎◌, ◌↔◌, inl, inr, List, Option, Some, None, refl, sym, ap, ◌∙◌}
use Rattle.words.specs.Members.{In}
use Rattle.patterns.specs.Bits.{DeviceBit, Bits}
use Rattle.records.specs.Profile.{SliceKind}
use Rattle.records.specs.Side.{Placed, Side}
use Rattle.fabric.specs.Graph.{Graph}
use Rattle.fabric.specs.MuxBits.{bit_cmp}
use Rattle.cells.specs.Sites.{Site, settings_at}
use Rattle.cells.specs.Shapes.{equal_shape}
use Rattle.attempts.specs.Moves.{Move}
use Rattle.fabric_laws.proofs.Graphs.{some_same}
use Rattle.words.proofs.Decided.{is_true, chosen}
use Rattle.check_laws.proofs.Least.{tie}
use Rattle.answer_laws.proofs.Lists.{least_in}
use Rattle.answer_laws.proofs.BadPlaces.{bit_total, bit_ties}
use Rattle.placements.specs.MoveFaults.{MoveFault, ShapeDiffers, SiteTaken, StandingBit, holder, bits_there, IsLeastSet, MayMove, IsMoveFault, shape_differs, site_taken, standing_bit}

true_false : (b : Bool) → b ≡ true → b ≡ false → ⊥
true_false b e f = (let no : ⊥ = cc in no)

none_some : {X : Type 0} (o : Option X) (x : X) → o ≡ None → o ≡ Some x → ⊥
none_some o x e f = (let no : ⊥ = cc in no)

-- the least bit that is set, or none is
least_set : (image : Bits) (bits : List DeviceBit) → ((b : DeviceBit) × IsLeastSet image bits b) ⊎ ((b : DeviceBit) → In bits b → image b ≡ false)
least_set image bits = elim (least_in bit_cmp bit_total set_bits.0) [
  | inl l ↦ (let h = (set_bits.1 l.0).0 l.1.has in inl (l.0, record { listed = h.0; is_set = h.1; least = λ c i e. l.1.least c ((set_bits.1 c).1 (i, e)) }))
  | inr n ↦ inr (λ b i. is_clear (image b) (λ e. n b ((set_bits.1 b).1 (i, e))))
]
  where
    set_bits : (ys : List DeviceBit) × ((y : DeviceBit) → In ys y ↔ (In bits y × (image y ≡ true)))
    set_bits = chosen (λ b. image b ≡ true) (λ b. is_true (image b)) bits

    is_clear : (v : Bool) → (v ≡ true → ⊥) → v ≡ false
    is_clear true n = absurd (n refl)
    is_clear false n = refl

one_least : (image : Bits) (bits : List DeviceBit) (b c : DeviceBit) → IsLeastSet image bits b → IsLeastSet image bits c → b ≡ c
one_least image bits b c p q = sym (bit_ties b c (tie bit_cmp bit_total b c (p.least c q.listed q.is_set) (q.least b p.listed p.is_set)))

module _ (g : Graph) (side : Side) (image : Bits) (m : Move) (old new : Site SliceKind) where
  abbrev Answer : Type 0
  Answer = MayMove g side image m old new ⊎ ((f : MoveFault) × IsMoveFault g side image m old new f)

  by_bits : equal_shape (settings_at g old) old.kind (settings_at g new) new.kind ≡ true → holder side m ≡ None → Answer
  by_bits shape free = elim (least_set image (bits_there g new)) [
    | inl b ↦ inr (StandingBit b.0, standing_bit b.0 shape free b.1)
    | inr clear ↦ inl (record { shape = shape; free = free; clear = clear })
  ]

  by_holder : (o : Option Placed) → holder side m ≡ o → equal_shape (settings_at g old) old.kind (settings_at g new) new.kind ≡ true → Answer
  by_holder None e shape = by_bits shape e
  by_holder (Some p) e shape = inr (SiteTaken p.name, site_taken p shape e)

  by_shape : (b : Bool) → equal_shape (settings_at g old) old.kind (settings_at g new) new.kind ≡ b → Answer
  by_shape true e = by_holder (holder side m) refl e
  by_shape false e = inr (ShapeDiffers old.kind.name new.kind.name, shape_differs e)

  pub move_is_decided : MayMove g side image m old new ⊎ ((f : MoveFault) × IsMoveFault g side image m old new f)
  move_is_decided = by_shape (equal_shape (settings_at g old) old.kind (settings_at g new) new.kind) refl

  pub never_both : (f : MoveFault) → MayMove g side image m old new → IsMoveFault g side image m old new f → ⊥
  never_both _ may (shape_differs e) = true_false (equal_shape (settings_at g old) old.kind (settings_at g new) new.kind) may.shape e
  never_both _ may (site_taken p e f) = none_some (holder side m) p may.free f
  never_both _ may (standing_bit b e f l) = true_false (image b) l.is_set (may.clear b l.listed)

  pub one_fault : (f h : MoveFault) → IsMoveFault g side image m old new f → IsMoveFault g side image m old new h → f ≡ h
  one_fault _ _ (shape_differs e) (shape_differs f) = refl
  one_fault _ _ (shape_differs e) (site_taken p f a) = absurd (true_false (equal_shape (settings_at g old) old.kind (settings_at g new) new.kind) f e)
  one_fault _ _ (shape_differs e) (standing_bit b f a l) = absurd (true_false (equal_shape (settings_at g old) old.kind (settings_at g new) new.kind) f e)
  one_fault _ _ (site_taken p e a) (shape_differs f) = absurd (true_false (equal_shape (settings_at g old) old.kind (settings_at g new) new.kind) e f)
  one_fault _ _ (site_taken p e a) (site_taken q f b) = ap (λ (x : Placed). SiteTaken x.name) (some_same (sym a ∙ b))
  one_fault _ _ (site_taken p e a) (standing_bit b f c l) = absurd (none_some (holder side m) p c a)
  one_fault _ _ (standing_bit b e a l) (shape_differs f) = absurd (true_false (equal_shape (settings_at g old) old.kind (settings_at g new) new.kind) e f)
  one_fault _ _ (standing_bit b e a l) (site_taken q f c) = absurd (none_some (holder side m) q a c)
  one_fault _ _ (standing_bit b e a l) (standing_bit c f d k) = ap StandingBit (one_least image (bits_there g new) b c l k)
