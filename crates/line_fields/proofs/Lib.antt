pub mod CutLaws
pub mod NumberLaws
pub mod FrontLaws
pub mod FarLaws
