-- What `polynomial` asks: that every number it works out on its way, in its order, has 64 bits. Nothing public is stated by this file.
use Rattle.std.specs.Prelude.{ℤ, ◌+ℤ◌, ◌-ℤ◌, ◌*ℤ◌}
use Rattle.std.specs.Int.{w64}
use Rattle.std.proofs.Common.{SFits}

pub record Room (n a b z : ℤ) : Type 0 where
  pub zz : SFits w64 (z *ℤ z)
  pub zzz : SFits w64 (z *ℤ z *ℤ z)
  pub nz : SFits w64 (n *ℤ z)
  pub nzz : SFits w64 (n *ℤ z *ℤ z)
  pub less_nzz : SFits w64 (z *ℤ z *ℤ z -ℤ n *ℤ z *ℤ z)
  pub na : SFits w64 (n *ℤ a)
  pub bb : SFits w64 (b *ℤ b)
  pub less_bb : SFits w64 (n *ℤ a -ℤ b *ℤ b)
  pub nb : SFits w64 (n *ℤ b)
  pub less_nb : SFits w64 (n *ℤ a -ℤ b *ℤ b -ℤ n *ℤ b)
  pub times_z : SFits w64 ((n *ℤ a -ℤ b *ℤ b -ℤ n *ℤ b) *ℤ z)
  pub with_times_z : SFits w64 (z *ℤ z *ℤ z -ℤ n *ℤ z *ℤ z +ℤ (n *ℤ a -ℤ b *ℤ b -ℤ n *ℤ b) *ℤ z)
  pub nab : SFits w64 (n *ℤ a *ℤ b)
  pub less_nab : SFits w64 (z *ℤ z *ℤ z -ℤ n *ℤ z *ℤ z +ℤ (n *ℤ a -ℤ b *ℤ b -ℤ n *ℤ b) *ℤ z -ℤ n *ℤ a *ℤ b)
