-- gm_commit has no definition that a clause of `tool` rests on; those that its contracts cite are in `inner`.
pub mod inner
