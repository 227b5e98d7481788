-- The texts of MINI-A's profile and of the toggle's side file. (Our own.)
use Rattle.std.specs.Prelude.{ℕ, List, ◌++◌, codes}

abbrev pub profile_text : List ℕ
profile_text =
    codes "{\"chip_prefix\": \"\", \"other_chips\": [\"25K_\"], \"wide\": [\"G_\"], \"joins\": [],"
    ++ (codes " \"slices\": [{\"tile\": \"MLC\", \"name\": \"S0\", \"shape\": \"L\", \"settings\": [\"S0.MODE\", \"S0.K\"], \"require\": [[\"S0.MODE\", \"LOGIC\"]],"
    ++ (codes " \"tables\": [{\"word\": \"S0.K\", \"pins\": [\"A\", \"B\", \"C\", \"D\"], \"out\": \"F\"}],"
    ++ (codes " \"registers\": [{\"out\": \"Q\", \"data\": [\"\", [[\"\", \"=F\"]]], \"enable\": [\"\", [[\"\", \"1\"]]], \"reset\": [\"\", [[\"\", \"0\"]]],"
    ++ (codes " \"set\": [\"\", [[\"\", \"0\"]]], \"clock\": [\"\", [[\"\", \"=CK\"]]]}]}],"
    ++ (codes " \"pads\": [{\"tile\": \"MIO\", \"name\": \"P0\", \"settings\": [\"P0.DIR\"],"
    ++ (codes " \"mode\": [\"P0.DIR\", [[\"NONE\", \"off\"], [\"INPUT\", \"in\"], [\"OUTPUT\", \"out\"]]], \"in\": \"PI\", \"out\": \"PO\"},"
    ++ (codes " {\"tile\": \"MCK\", \"name\": \"K0\", \"settings\": [\"K0.DIR\"],"
    ++ codes " \"mode\": [\"K0.DIR\", [[\"NONE\", \"off\"], [\"INPUT\", \"in\"]]], \"in\": \"KI\", \"out\": \"\"}]}")))))))

abbrev pub side_text : List ℕ
side_text =
    codes "{\"slices\": [[\"a0\", \"R1C1:MLC\", \"S0\", 0], [\"a1\", \"R1C2:MLC\", \"S0\", 1], [\"a2\", \"R1C3:MLC\", \"S0\", 2]],"
    ++ (codes " \"pads\": [[\"k0\", \"R2C1:MCK\", \"K0\", 0], [\"k1\", \"R2C2:MCK\", \"K0\", 1], [\"k2\", \"R2C3:MCK\", \"K0\", 2],"
    ++ (codes " [\"o0\", \"R0C1:MIO\", \"P0\", 0], [\"o1\", \"R0C2:MIO\", \"P0\", 1], [\"o2\", \"R0C3:MIO\", \"P0\", 2]],"
    ++ (codes " \"triples\": [[\"a0\", \"a1\", \"a2\"]], \"inputs\": [], \"outputs\": [[\"o0\", \"o1\", \"o2\"]], \"clocks\": [[\"k0\", \"k1\", \"k2\"]],"
    ++ codes " \"voters\": [[\"a0\", 0], [\"a1\", 0], [\"a2\", 0]]}")))
