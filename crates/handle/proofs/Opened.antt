-- The handle that chapter 6 prints opens.
-- Assumes nothing.
use mathlib.Core.Path.{◌≡◌, refl, sym, ap, ◌∙◌}
use mathlib.Core.Option.{some}
use lib.ListN.{replicate}
use Rattle.handle.specs.Format.{aad}
use Rattle.handle.specs.Wrap.{unwrap_key}
use Rattle.handle.proofs.Aad.{aad-length}
use Rattle.handle.proofs.Examples.{handle_6, chapter_6}
use Rattle.handle.proofs.Wrap.{unwrap_wrap}

pub chapter_6_opens : unwrap_key (replicate 16 0) (replicate 32 0) handle_6 ≡ some (replicate 16 0)
chapter_6_opens =
    ap (unwrap_key (replicate 16 0) (replicate 32 0)) (sym chapter_6)
    ∙ unwrap_wrap (replicate 16 0) (replicate 32 0) (aad 0 0) (replicate 16 0) 1 (aad-length 0 0) refl
