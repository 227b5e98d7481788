-- Where a job is answered with all connections routed, so is each job that is the same but for the numbers of lines, and the
-- outcome of both is the same.
use Rattle.std.proofs.Common.{◌≡◌, ℕ, ◌<◌, Bool, true, false, List, [], ◌∷◌, map, filter, cond, inl, inr, refl, sym, ap, subst, ◌∙◌}
use Rattle.words.specs.Members.{In}
use Rattle.records.specs.Config.{TileText, Config}
use Rattle.fabric.specs.Graph.{Graph}
use Rattle.fabric.specs.GraphOf.{IsGraph}
use Rattle.config_grammar.specs.ConfigPrint.{config_text}
use Rattle.side_form.specs.SidePrint.{side_text}
use Rattle.repair.specs.Layouts.{Layout}
use Rattle.attempts.specs.Jobs.{Job}
use Rattle.attempts.specs.Attempts.{Event, Routed, NoRoute, Answer, Standing, Ended, IsAnswer}
use Rattle.answers.specs.Answers.{Done}
use Rattle.commands.specs.Commands.{Hardening}
use Rattle.design_answers.specs.Outcomes.{file, hardened}
use Rattle.headline_laws.specs.Sound.{IsSoundJob}
use Rattle.inside_laws.proofs.Answered.{sound_answered}
use Rattle.text_laws.specs.SameButLines.{unnumbered, has_lines, EachHasLines, SameButLines}
use Rattle.text_laws.proofs.SamePrint.{same_print}
use Rattle.line_laws.specs.Plain.{plain_config, plain_layout, plain_job, plain_answer}
use Rattle.line_laws.proofs.Texts.{same_but}
use Rattle.line_laws.proofs.Answers.{answers_alike}

-- ---- configurations

one_stays : (t : TileText) (ts us : List TileText) (b : Bool) → b ≡ true → us ≡ ts → cond b (t ∷ us) us ≡ t ∷ ts
one_stays t ts us true e same = ap (λ xs. t ∷ xs) same
one_stays t ts us false e same = absurd (let no : ⊥ = cc in no)

all_stay : (ts : List TileText) → ((t : TileText) → In ts t → has_lines t ≡ true) → filter has_lines ts ≡ ts
all_stay [] each = refl
all_stay (t ∷ ts) each = one_stays t ts (filter has_lines ts) (has_lines t) (each t (inl refl)) (all_stay ts (λ u i. each u (inr i)))

pub plain_same : (c d : Config) → SameButLines c d → EachHasLines c → EachHasLines d → plain_config d ≡ plain_config c
plain_same c d same of_c of_d = λ i. record { device = same.device i; heads = same.heads i; tiles = tiles i }
  where
    tiles : map unnumbered d.tiles ≡ map unnumbered c.tiles
    tiles = ap (map unnumbered) (sym (all_stay d.tiles of_d)) ∙ (same.sections ∙ ap (map unnumbered) (all_stay c.tiles of_c))

plain_prints : (c : Config) → config_text (plain_config c) ≡ config_text c
plain_prints c = same_print c (plain_config c) (same_but c)

prints_same : (y z : Layout) → plain_layout z ≡ plain_layout y → config_text z.config ≡ config_text y.config
prints_same y z same = sym (plain_prints z.config) ∙ (ap (λ (l : Layout). config_text l.config) same ∙ plain_prints y.config)

-- ---- outcomes

pub outcome_same : (g : Graph) (h : Hardening) (log : List Event) (n : ℕ) (y z : Layout) → plain_layout z ≡ plain_layout y → hardened g h log z n ≡ hardened g h log y n
outcome_same g h log n y z same = λ i. record {
  status = Done;
  text = (hardened g h log y n).text;
  written = file h.out (prints_same y z same i) ∷ file h.side_out (ap (λ (l : Layout). side_text l.side) same i) ∷ [];
}

-- ---- answers

-- all connections are routed, with this log and so many, and what is written is this layout but for the numbers of lines
pub record IsRoutedAlike (job : Job) (log : List Event) (y : Layout) (n : ℕ) : Type 0 where
  pub layout : Layout
  pub answered : IsAnswer job (Ended log (Routed layout n))
  pub same : plain_layout layout ≡ plain_layout y

routed_alike : (job : Job) (a : Answer) (log : List Event) (y : Layout) (n : ℕ) → IsAnswer job a → plain_answer a ≡ plain_answer (Ended log (Routed y n)) → IsRoutedAlike job log y n
routed_alike job Standing log y n p same = absurd (let no : ⊥ = cc in no)
routed_alike job (Ended other (NoRoute end net pin cut)) log y n p same = absurd (let no : ⊥ = cc in no)
routed_alike job (Ended other (Routed z m)) log y n p same =
    let logs : other ≡ log = cc in
    let counts : m ≡ n = cc in
    let layouts : plain_layout z ≡ plain_layout y = cc in
    record { layout = z; answered = subst (IsAnswer job) (λ i. Ended (logs i) (Routed z (counts i))) p; same = layouts }

pub job_alike : (job other : Job) → IsSoundJob job → 0 < job.rounds → IsGraph job.device job.design.graph → plain_job job ≡ plain_job other
    → (log : List Event) (y : Layout) (n : ℕ) → IsAnswer other (Ended log (Routed y n)) → IsRoutedAlike job log y n
job_alike job other sound some is same log y n q =
    let answer = sound_answered job sound some in
    routed_alike job answer.0 log y n answer.1 (answers_alike job other is same answer.0 (Ended log (Routed y n)) answer.1 q)
