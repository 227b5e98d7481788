use Rattle.std.proofs.Common.{refl}
use Rattle.repair.specs.Added.{with_arcs}
use Rattle.repair_laws.proofs.Numbers.{in_mux_bits}
use Rattle.layout_laws.proofs.Settings.{words_same, values_same, settings_stay}
use Rattle.layout_laws.proofs.settings_read_the_same.Goals as goal

pub returns-clause-words : goal.returns-clause-words
returns-clause-words c = λ g config image arcs plain tile name.
    words_same g (with_arcs image arcs) image (settings_stay g image arcs (λ a i b n s. (plain a i).1.no_setting b (in_mux_bits g a.mux a b (plain a i).0 refl n) s)) tile name

pub returns-clause-enums : goal.returns-clause-enums
returns-clause-enums c = λ g config image arcs plain tile name.
    values_same g (with_arcs image arcs) image (settings_stay g image arcs (λ a i b n s. (plain a i).1.no_setting b (in_mux_bits g a.mux a b (plain a i).0 refl n) s)) tile name
