mod Symmetric
