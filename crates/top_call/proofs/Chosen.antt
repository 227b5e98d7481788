-- The chosen arcs of a mux by the longest that fits.
use Rattle.std.proofs.Common.{◌≡◌, ℕ, Bool, true, false, not, cond, ◌&&◌, ◌||◌, List, [], ◌∷◌, ◌++◌, append_assoc, length, max, map, filter, refl, sym, ap, ◌∙◌, arith}
use Rattle.std.specs.Prelude.{nat_le, codes}
use Rattle.std.specs.List.{list_all}
use Rattle.std.proofs.lemmas.Bool.Decides.{nat_tests}
use Rattle.patterns.specs.Bits.{DeviceBit, Bits}
use Rattle.patterns.specs.Fits.{fits}
use Rattle.records.specs.Database.{Arc, Mux}
use Rattle.fabric.specs.Chosen.{is_longest}
use Rattle.texts.specs.Printing.{spaced, line_feed}
use Rattle.answers.specs.Answers.{Answer, Done}
use Rattle.answers.specs.Drivers.{no_origin, chosen_sources, or_dash, driver_line, drivers_text}
use Rattle.top_call.specs.Longest.{longest_fit, sources_of, has_any}

le_max : (a b n : ℕ) → nat_le a n && nat_le b n ≡ nat_le (max a b) n
le_max a b n = grind (arith, nat_tests)

none_longer : (n : ℕ) → true ≡ nat_le 0 n
none_longer n = grind (arith, nat_tests)

longest_step : (fit : Bool) (bits longest n : ℕ) (rest : Bool) → rest ≡ nat_le longest n → (not fit || nat_le bits n) && rest ≡ nat_le (cond fit (max bits longest) longest) n
longest_step true bits longest n rest h = ap (λ r. nat_le bits n && r) h ∙ le_max bits longest n
longest_step false bits longest n rest h = h

-- each arc that fits has at most n bits just where the longest has
at_most : (image : Bits) (arcs : List Arc) (n : ℕ) → list_all (λ other. not (fits image no_origin other.bits) || nat_le (length other.bits) n) arcs ≡ nat_le (longest_fit image no_origin arcs) n
at_most image [] n = none_longer n
at_most image (arc ∷ arcs) n =
    longest_step (fits image no_origin arc.bits) (length arc.bits) (longest_fit image no_origin arcs) n _ (at_most image arcs n)

same_filter : {X : Type 0} (p q : X → Bool) (xs : List X) → ((x : X) → p x ≡ q x) → filter p xs ≡ filter q xs
same_filter p q [] h = refl
same_filter p q (x ∷ xs) h = ap (λ b. cond b (x ∷ filter p xs) (filter p xs)) (h x) ∙ ap (λ ys. cond (q x) (x ∷ ys) ys) (same_filter p q xs h)

-- the sources by the longest are the chosen ones
pub chosen_by_longest : (bits : Bits) (mux : Mux) → sources_of bits (longest_fit bits no_origin mux.arcs) mux.arcs ≡ chosen_sources bits mux
chosen_by_longest bits mux =
    ap (map (λ arc. arc.source))
    (same_filter
    (λ arc. fits bits no_origin arc.bits && nat_le (longest_fit bits no_origin mux.arcs) (length arc.bits))
    (λ arc. fits bits no_origin arc.bits && is_longest (λ a. a.bits) bits no_origin mux.arcs arc)
    mux.arcs
    (λ arc. ap (λ b. fits bits no_origin arc.bits && b) (sym (at_most bits mux.arcs (length arc.bits)))))

-- where there is no source, `-` stands in its place
pub dashed : (sources : List (List ℕ)) → has_any sources ≡ true → or_dash sources ≡ sources
dashed [] h = absurd (let no : ⊥ = cc in no)
dashed (source ∷ sources) h = refl

pub no_source : (sources : List (List ℕ)) → has_any sources ≡ false → or_dash sources ≡ codes "-" ∷ []
no_source [] h = refl
no_source (source ∷ sources) h = absurd (let no : ⊥ = cc in no)

pub none_spaced : (sources : List (List ℕ)) → has_any sources ≡ false → spaced sources ≡ []
none_spaced [] h = refl
none_spaced (source ∷ sources) h = absurd (let no : ⊥ = cc in no)

-- a sink, its sources by the longest and a line feed are the line of a mux
pub line_pushed : (old : List ℕ) (bits : Bits) (mux : Mux)
    → ((old ++ mux.sink) ++ spaced (or_dash (sources_of bits (longest_fit bits no_origin mux.arcs) mux.arcs))) ++ line_feed ≡ old ++ driver_line bits mux
line_pushed old bits mux =
    ap (λ sources. ((old ++ mux.sink) ++ spaced (or_dash sources)) ++ line_feed) (chosen_by_longest bits mux)
    ∙ ap (λ text. text ++ line_feed) (append_assoc old mux.sink (spaced (or_dash (chosen_sources bits mux))))
    ∙ append_assoc old (mux.sink ++ spaced (or_dash (chosen_sources bits mux))) line_feed

-- images with the same bits have the same report
pub same_report : (image other : Bits) → ((b : DeviceBit) → image b ≡ other b) → (muxes : List Mux) → drivers_text image muxes ≡ drivers_text other muxes
same_report image other same muxes = λ i. drivers_text (λ b. same b i) muxes

-- a text that is the report on an image is that on another one with the same bits
pub done_report : (text : List ℕ) (image other : Bits) (muxes : List Mux) → text ≡ drivers_text image muxes → ((b : DeviceBit) → image b ≡ other b)
    → (let a : Answer = record { status = Done; text = text } in a) ≡ record { status = Done; text = drivers_text other muxes }
done_report text image other muxes e same = ap (λ (t : List ℕ). (let a : Answer = record { status = Done; text = t } in a)) (e ∙ same_report image other same muxes)
