-- The lines of a certificate make up its text, and how it is written: its first line, and then its nodes.
use Rattle.std.proofs.Common.{◌≡◌, ℕ, List, [], ◌∷◌, ◌++◌, codes, refl, sym, ap, subst}
use Rattle.std.specs.List.{concat}
use Rattle.std.specs.Prelude.{Option}
use Rattle.pair_io.specs.Gains.{Gains, GainsPrefix}
use Rattle.pair_io.proofs.Gains.{Gains-then, GainsPrefix-first, GainsPrefix-second}
use Rattle.audit_frame.specs.Answer.{text_of}
use Rattle.cert_text.specs.declared.node.Node.{Node}
use Rattle.cert_make.specs.Text.{certificate_lines, certificate_text, nodes_text}

text_of-lines : (lines : List (List ℕ)) → text_of lines ≡ concat lines
text_of-lines [] = refl
text_of-lines (line ∷ lines) = ap (λ (rest : List ℕ). line ++ rest) (text_of-lines lines)

pub text_of-certificate : (nodes : List Node) → text_of (certificate_lines nodes) ≡ certificate_text nodes
text_of-certificate nodes = text_of-lines (certificate_lines nodes)

-- The first line stopped in its middle.
pub agree_stopped : (nodes : List Node) (before now : Option (List ℕ)) → GainsPrefix before now (codes "agree" ++ codes "\n")
    → GainsPrefix before now (text_of (certificate_lines nodes))
agree_stopped nodes before now prefix =
    subst (GainsPrefix before now) (sym (text_of-certificate nodes)) (GainsPrefix-first (nodes_text nodes) prefix)

module _ (nodes : List Node) (before between now : Option (List ℕ)) where
  -- The nodes stopped in their middle.
  pub nodes_stopped : Gains before between (codes "agree" ++ codes "\n") → GainsPrefix between now (nodes_text nodes)
      → GainsPrefix before now (text_of (certificate_lines nodes))
  nodes_stopped gained prefix =
      subst (GainsPrefix before now) (sym (text_of-certificate nodes)) (GainsPrefix-second (codes "agree\n") gained prefix)

  -- All was written.
  pub all_written : Gains before between (codes "agree" ++ codes "\n") → Gains between now (nodes_text nodes)
      → Gains before now (text_of (certificate_lines nodes))
  all_written gained then =
      subst (Gains before now) (sym (text_of-certificate nodes))
      (Gains-then before between now (codes "agree\n") (nodes_text nodes) gained then)
